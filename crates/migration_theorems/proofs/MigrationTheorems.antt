-- The theorems on migration. What is written is the plan of the rows that were read, so that the round trip of writing says what it reads as; a plan that keeps
-- the present rule has one form, which is what is written.
use mathlib.Core.Path.{◌≡◌, refl, sym, ap, subst, ◌∙◌}
use mathlib.Core.List.{List}
use Prim.Native.Nat.{ℕ, ◌≤◌}
use native.Mathlib.Omega.{arith}
use lib.ListN.{length}
use Rattle.answers.specs.Numbers.{done}
use Rattle.encode.specs.Laws.Bytes.{Bytes}
use Rattle.plan_read.specs.Plan.{Plan, rows, refused, row_destinations}
use Rattle.plan_read.specs.declared.Row.{Row}
use Rattle.plan.specs.Answers.{summary_of}
use Rattle.plan_length.specs.Length.{length_of}
use Rattle.plan_length.specs.declared.PlanLength.{PlanLength}
use Rattle.plan_length.specs.declared.PlanWritten.{PlanWritten}
use Rattle.plan_write.specs.Write.{write_refusal, written_of}
use Rattle.plan_write.specs.RoundTrip.{ReadsAs}
use Rattle.plan_write.proofs.RoundTrip.{round_trip}
use Rattle.canonical_theorems.proofs.Plans.{accepted_rows, plan_written, write_back}
use Rattle.plan_migration.specs.Migration.{old_plan_of, migrated_length_of, migrate_answer, migrated_into, Migrates}
use Rattle.migration_theorems.specs.MigrationTheorems.{MigratesTo, StaysAsItIs, RefusedAs, MigrationTheorems}
use Rattle.migration_theorems.proofs.Plans.{same_rows, old_plan}
use Rattle.migration_theorems.proofs.Lengths.{length_written, length_is_lem, no_length}
use Rattle.migration_theorems.proofs.Places.{length_place, migrate_place}

-- a plan that the old rule reads
module _ (s : List ℕ) (l : List Row) (e : old_plan_of s ≡ rows l) where
  module _ (out after : List ℕ) (r : PlanWritten) (m : Migrates s out after r) where
    number_is : r.number ≡ write_refusal (row_destinations l) (length out)
    number_is = ap (λ (q : PlanWritten). q.number) (m.answer ∙ ap (migrate_answer (length out)) e)

    buffer_is : after ≡ written_of (row_destinations l) out
    buffer_is = m.buffer ∙ ap (migrated_into out) e

  migrates_to : MigratesTo s (row_destinations l)
  migrates_to =
      record {
        has_length = ap (λ (q : PlanLength). q.number) (length_is_lem s l e);
        accepted = λ out after r m n.
            let same : length out ≡ (length_of (row_destinations l)).length =
            n ∙ ap (λ (q : PlanLength). q.length) (length_is_lem s l e ∙ sym (length_written s l e)) in
            number_is out after r m
            ∙ ap (write_refusal (row_destinations l)) same
            ∙ round_trip.length_accepted (row_destinations l) (ap (λ (q : PlanLength). q.number) (length_written s l e));
        reads = λ out after r m z.
            subst (ReadsAs (row_destinations l)) (sym (buffer_is out after r m))
            (round_trip.reads_back (row_destinations l) out (sym (number_is out after r m) ∙ z));
      }

as_it_is : (s : List ℕ) → Bytes s → (summary_of s).number ≡ done → StaysAsItIs s
as_it_is s h z =
    let x = accepted_rows s z in
    let e = same_rows s x.all x.is in
    record {
      same_length = ap (λ (q : PlanLength). q.length) (length_is_lem s x.all e) ∙ sym (ap length (plan_written s x.all h x.is));
      accepted = λ out after r m n. number_is s x.all e out after r m ∙ (write_back s x.all h x.is out n).accepted;
      same_bytes = λ out after r m n. buffer_is s x.all e out after r m ∙ (write_back s x.all h x.is out n).holds;
    }

refused_as : (s : List ℕ) (n place : ℕ) → old_plan_of s ≡ refused n place → RefusedAs s n place
refused_as s n place e =
    record {
      no_length = no_length s n place e;
      answer = λ out after r m. m.answer ∙ ap (migrate_answer (length out)) e;
      nothing_written = λ out after r m. m.buffer ∙ ap (migrated_into out) e;
    }

no_longer : (s : List ℕ) → (migrated_length_of s).length ≤ length s
no_longer s = go (old_plan_of s) refl
  where
    go : (p : Plan) → old_plan_of s ≡ p → (migrated_length_of s).length ≤ length s
    go (rows l) e = rw (length_is_lem s l e) (old_plan s l e).no_longer
    go (refused n place) e = rw (no_length s n place e) (omega arith)

pub migration_theorems : MigrationTheorems
migration_theorems =
    record {
      migrated = migrates_to;
      refused_as_read = refused_as;
      same_rows = same_rows;
      as_it_is = as_it_is;
      length_place = length_place;
      place = migrate_place;
      no_longer = no_longer;
    }
