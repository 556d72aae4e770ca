-- Laws of the answers of migration: which case of the definitions holds, by the length that was asked for first.
use mathlib.Core.Path.{◌≡◌, refl, sym, ap, ◌∙◌}
use mathlib.Core.List.{List}
use Rattle.std.specs.Prelude.{Err}
use Prim.Native.Nat.{ℕ}
use native.Mathlib.Omega.{arith}
use lib.ListN.{length}
use borrow.Author.Tests.{eq-eqb}
use Rattle.answers.specs.Numbers.{done, malformed_plan}
use Rattle.plan_read.specs.Plan.{Plan, rows, refused, row_destinations}
use Rattle.plan_read.specs.Laws.Refusals.{Numbered}
use Rattle.plan_length.specs.Length.{written_plan, length_is, write_answer, length_from, written_from}
use Rattle.answers.specs.declared.PlanRefusal.{PlanRefusal}
use Rattle.plan_length.specs.declared.PlanLength.{PlanLength}
use Rattle.plan_length.specs.declared.PlanWritten.{PlanWritten}
use Rattle.plan_write.specs.Write.{fills, write_refusal, written_of}
use Rattle.plan_write.proofs.Rows.{known_allowed, known_length, other_length, not_allowed}
use Rattle.plan_migration.specs.Migration.{migrated_length, migrate_answer, migrated_into}
use Rattle.plan_migration.specs.Room.{PlanRoom, destinations_in}

-- migrating what was read as p answers r, and leaves `after` in the buffer
pub record Migrated (p : Plan) (out after : List ℕ) (r : PlanWritten) : Type 0 where
  pub answer : r ≡ migrate_answer (length out) p
  pub buffer : after ≡ migrated_into out p

module _ (out : List ℕ) where
  -- it has no length
  pub no_length_lem : (p : Plan) (e : PlanRefusal) → length_from (Err e) ≡ migrated_length p → Migrated p out out (written_from (Err e))
  no_length_lem (rows l) e h = let w = not_allowed (row_destinations l) out e h in record { answer = w.answer; buffer = w.buffer }
  no_length_lem (refused n place) e h = record { answer = ap (λ (a : PlanLength). record { number = a.number; place = a.place }) h; buffer = refl }

  module _ (n : ℕ) where
    -- it has another length than the buffer
    pub other_buffer : (p : Plan) → Numbered p → length_is n ≡ migrated_length p → (n ≡ length out → ⊥) → Migrated p out out (write_answer malformed_plan)
    other_buffer (rows l) k e d = let w = other_length (row_destinations l) n e out d in record { answer = w.answer; buffer = w.buffer }
    other_buffer (refused m place) k e d = absurd (omega (arith, ap (λ (a : PlanLength). a.number) e))

    -- it fills the buffer
    pub plan_room : (p : Plan) → Numbered p → length_is n ≡ migrated_length p → n ≡ length out → PlanRoom p (length out)
    plan_room (rows l) k e d =
        record { keeps = known_allowed (row_destinations l) n e; fills = sym (known_length (row_destinations l) n e) ∙ d }
    plan_room (refused m place) k e d = absurd (omega (arith, ap (λ (a : PlanLength). a.number) e))

pub filled : (p : Plan) (out : List ℕ) → PlanRoom p (length out) → Migrated p out (written_plan (destinations_in p)) (write_answer done)
unfolding write_refusal written_of fills
filled (rows l) out u = record { answer = rw (u.keeps, eq-eqb _ _ u.fills); buffer = rw (u.keeps, eq-eqb _ _ u.fills) }
filled (refused n place) out u = absurd u
