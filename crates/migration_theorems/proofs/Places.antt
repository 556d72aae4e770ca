-- The place that migrating a plan tells. A number fails by the old rule only where it fails by the present one, so not past the end; and what holds of places
-- for any reader of numbers holds of the old rule's.
use mathlib.Core.Path.{◌≡◌, refl, ap, ◌∙◌}
use mathlib.Core.List.{List}
use mathlib.Core.Bool.{Bool, true, false, cond}
use Prim.Native.Nat.{ℕ, ◌+◌, ◌-◌}
use native.Mathlib.Omega.{arith}
use lib.ListN.{length, drop, length-drop}
use Rattle.leb128.specs.Number.{Parsed, value, bad, number}
use Rattle.old_number.specs.OldNumber.{old_number}
use Rattle.old_number.specs.Laws.{as_old, as_old_lem, low_groups, zero_there, OldUsed, old_used}
use Rattle.plan_read.specs.Plan.{Plan, rows, refused}
use Rattle.plan_length.specs.declared.PlanWritten.{PlanWritten}
use Rattle.place_theorems.specs.PlaceTheorems.{PlaceIn}
use Rattle.place_theorems.proofs.Numbers.{Bounded, number_bounded}
use Rattle.place_theorems.proofs.Plans.{Placed, refused_in, placed_by}
use Rattle.plan_migration.specs.Migration.{old_plan_of, migrated_length_of, migrate_answer, Migrates}
use Rattle.migration_theorems.proofs.Lengths.{length_is_lem, no_length}

fails_alike : (at : ℕ) (s : List ℕ) (p : Parsed) (place : ℕ) → as_old at s p ≡ bad place → p ≡ bad place
fails_alike at s (value v n rest) place e = e
fails_alike at s (bad other) place e = go (zero_there (other - at) s) e
  where
    go : (t : Bool) → cond t (value (low_groups (other - at) s) (other + 1) (drop (other + 1 - at) s)) (bad other) ≡ bad place → bad other ≡ bad place
    go true q = cc
    go false q = q

old_bounded : (at : ℕ) (s : List ℕ) → Bounded at (at + length s) (old_number at s)
old_bounded at s = go (old_number at s) refl (old_used 2 at s)
  where
    go : (p : Parsed) → old_number at s ≡ p → OldUsed 2 at s p → Bounded at (at + length s) p
    go (value v next rest) e u = (u.some, omega (arith, u.some, u.inside, ap length u.left, length-drop (next - at) s))
    go (bad place) e u = rw (fails_alike at s (number at s) place (as_old_lem true 2 at s ∙ e)) at (number_bounded at s)

pub length_place : (s : List ℕ) → PlaceIn s (migrated_length_of s).number (migrated_length_of s).place
length_place s = go (old_plan_of s) refl (placed_by old_number old_bounded s)
  where
    go : (p : Plan) → old_plan_of s ≡ p → Placed (length s) p → PlaceIn s (migrated_length_of s).number (migrated_length_of s).place
    go (rows l) e u = rw (length_is_lem s l e) (record { within = omega arith; malformed_alone = λ z. refl })
    go (refused n place) e u = rw (no_length s n place e) (refused_in s n place u)

pub migrate_place : (s out after : List ℕ) (r : PlanWritten) → Migrates s out after r → PlaceIn s r.number r.place
migrate_place s out after r m = rw m.answer (go (old_plan_of s) (placed_by old_number old_bounded s))
  where
    go : (p : Plan) → Placed (length s) p → PlaceIn s (migrate_answer (length out) p).number (migrate_answer (length out) p).place
    go (rows l) u = record { within = omega arith; malformed_alone = λ z. refl }
    go (refused n place) u = refused_in s n place u
