-- The length of a migrated plan: that of its rows written, which the old rule reads as rows that may be written; or the refusal.
use mathlib.Core.Path.{◌≡◌, ap}
use mathlib.Core.List.{List}
use Prim.Native.Nat.{ℕ}
use lib.ListN.{length}
use Rattle.plan_read.specs.Plan.{rows, refused, row_destinations}
use Rattle.plan_read.specs.declared.Row.{Row}
use Rattle.plan_length.specs.Length.{written_plan, length_is, refused_length, length_of}
use Rattle.plan_migration.specs.Migration.{old_plan_of, migrated_length, migrated_length_of}
use Rattle.migration_theorems.proofs.Plans.{old_plan}

module _ (s : List ℕ) (l : List Row) (e : old_plan_of s ≡ rows l) where
  pub length_written : length_of (row_destinations l) ≡ length_is (length (written_plan (row_destinations l)))
  unfolding length_of
  length_written = rw (old_plan s l e).keeps

  pub length_is_lem : migrated_length_of s ≡ length_is (length (written_plan (row_destinations l)))
  unfolding migrated_length_of
  length_is_lem = rw e length_written

pub no_length : (s : List ℕ) (n place : ℕ) → old_plan_of s ≡ refused n place → migrated_length_of s ≡ refused_length n place
unfolding migrated_length_of
no_length s n place e = ap migrated_length e
