-- Laws of what the program writes, by the answers of migration into the first bytes of its buffer.
use mathlib.Core.Path.{◌≡◌, refl, sym, ap, ◌∙◌}
use mathlib.Core.List.{List, [], ◌++◌}
use Rattle.std.specs.Prelude.{Err}
use mathlib.Core.Bool.{Bool, true, false, cond}
use Prim.Native.Nat.{ℕ, ◌≤◌, ◌<◌}
use native.Mathlib.Omega.{arith}
use lib.ListN.{length, take, drop}
use lib.Seq.{length-take-le, take_at}
use lib.Dec.{eqb}
use borrow.Author.Tests.{eqb-true}
use Rattle.answers.specs.Numbers.{done, malformed_plan}
use Rattle.answers.specs.declared.PlanRefusal.{PlanRefusal}
use Rattle.old_number.specs.OldNumber.{old_number}
use Rattle.plan_read.specs.Plan.{Plan, rows, refused, row_destinations}
use Rattle.plan_read.specs.Laws.Refusals.{Numbered, numbered_by}
use Rattle.plan_length.specs.Length.{written_plan, allowed, length_from}
use Rattle.plan_length.specs.Laws.{and_right}
use Rattle.plan_length.specs.declared.PlanLength.{PlanLength}
use Rattle.plan_length.specs.declared.PlanWritten.{PlanWritten}
use Rattle.plan_write.proofs.Rows.{refusal_some}
use Rattle.plan_write.specs.Write.{fills, write_refusal, written_of}
use Rattle.plan_migration.specs.Migration.{old_plan_of, migrated_length_of, migrate_answer, migrated_into, Migrates}
use Rattle.migration_theorems.proofs.MigrationTheorems.{migration_theorems}
use Rattle.plan_migrate.specs.Output.{output, Leaves}

-- the plan is refused, and so is its length
pub refused_none : (s out : List ℕ) (e : PlanRefusal) → length_from (Err e) ≡ migrated_length_of s → Leaves s out out 0
refused_none s out e h = record { inside = omega arith; bytes = λ l. sym (go (old_plan_of s) refl) }
  where
    go : (p : Plan) → old_plan_of s ≡ p → output p ≡ []
    go (rows l) q = absurd (refusal_some e (ap (λ (a : PlanLength). a.number) h ∙ (migration_theorems.migrated s l q).has_length))
    go (refused k place) q = refl

-- the buffer has no room for the migrated plan, and so none for the plan
pub no_room : (s out : List ℕ) → length out < (migrated_length_of s).length → Leaves s out out 0
no_room s out h = record { inside = omega arith; bytes = λ l. absurd (omega (arith, migration_theorems.no_longer s)) }

full : (l : List ℕ) (n : ℕ) → fills l n ≡ true → length (written_plan l) ≡ n
unfolding fills
full l n k = eqb-true _ _ (and_right (allowed l) (eqb (length (written_plan l)) n) k)

-- what an accepted writing left
filled : (l out after : List ℕ) → write_refusal l (length out) ≡ done → after ≡ written_of l out → (after ≡ written_plan l) × (length after ≡ length out)
unfolding write_refusal written_of
filled l out after z e = go (fills l (length out)) refl z e
  where
    go : (t : Bool) → fills l (length out) ≡ t → cond t done malformed_plan ≡ done → after ≡ cond t (written_plan l) out
        → (after ≡ written_plan l) × (length after ≡ length out)
    go true k q w = (w, ap length w ∙ full l (length out) k)
    go false k q w = absurd (omega arith)

-- migrating into the first n bytes of the buffer, as many as were asked for, answered r and left `part` in them
module _ (s out part : List ℕ) (n : ℕ) (r : PlanWritten) (room : n ≤ length out) (e : n ≡ (migrated_length_of s).length)
    (m : Migrates s (take n out) part r) where
  lent : length (take n out) ≡ n
  lent = length-take-le n out room

  pub nothing : (r.number ≡ done → ⊥) → Leaves s out (part ++ drop n out) 0
  nothing z = record { inside = omega arith; bytes = λ h. sym (go (old_plan_of s) refl) }
    where
      go : (p : Plan) → old_plan_of s ≡ p → output p ≡ []
      go (rows l) q = absurd (z ((migration_theorems.migrated s l q).accepted (take n out) part r m (lent ∙ e)))
      go (refused k place) q = refl

  pub whole : r.number ≡ done → Leaves s out (part ++ drop n out) n
  whole z = record { inside = room; bytes = λ h. go (old_plan_of s) refl (numbered_by old_number s) }
    where
      answer : (p : Plan) → old_plan_of s ≡ p → (migrate_answer (length (take n out)) p).number ≡ done
      answer p q = sym (ap (λ (a : PlanWritten). a.number) (m.answer ∙ ap (migrate_answer (length (take n out))) q)) ∙ z

      go : (p : Plan) → old_plan_of s ≡ p → Numbered p → take n (part ++ drop n out) ≡ output p
      go (rows l) q u =
          let f = filled (row_destinations l) (take n out) part (answer (rows l) q) (m.buffer ∙ ap (migrated_into (take n out)) q) in
          take_at part (drop n out) n (f.1 ∙ lent) ∙ f.0
      go (refused k place) q u = absurd (omega (arith, answer (refused k place) q))
