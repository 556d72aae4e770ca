-- What holds of migration (docs/RULES.md, 'Migration'), by the answers that the entries promise. `Bytes` are numbers below 256, which lent bytes are.
use Rattle.std.specs.Prelude.{ℕ, ◌≤◌, ◌≡◌, List, length}
use Rattle.answers.specs.Numbers.{done}
use Rattle.encode.specs.Laws.Bytes.{Bytes}
use Rattle.plan_read.specs.Plan.{rows, refused, plan_of, row_destinations}
use Rattle.plan_read.specs.declared.Row.{Row}
use Rattle.plan.specs.Answers.{summary_of}
use Rattle.plan_length.specs.Length.{refused_length}
use Rattle.plan_length.specs.declared.PlanWritten.{PlanWritten}
use Rattle.plan_write.specs.RoundTrip.{ReadsAs}
use Rattle.place_theorems.specs.PlaceTheorems.{PlaceIn}
use Rattle.plan_migration.specs.Migration.{old_plan_of, migrated_length_of, Migrates}

-- migrating s into a buffer of as many bytes as were asked for first is accepted, and reads by the present rule as the rows l
pub record MigratesTo (s : List ℕ) (l : List ℕ) : Type 0 where
  pub has_length : (migrated_length_of s).number ≡ done
  pub accepted : (out after : List ℕ) (r : PlanWritten) → Migrates s out after r → length out ≡ (migrated_length_of s).length → r.number ≡ done
  pub reads : (out after : List ℕ) (r : PlanWritten) → Migrates s out after r → r.number ≡ done → ReadsAs l after

-- migrating s leaves s, in a buffer as long as s
pub record StaysAsItIs (s : List ℕ) : Type 0 where
  pub same_length : (migrated_length_of s).length ≡ length s
  pub accepted : (out after : List ℕ) (r : PlanWritten) → Migrates s out after r → length out ≡ length s → r.number ≡ done
  pub same_bytes : (out after : List ℕ) (r : PlanWritten) → Migrates s out after r → length out ≡ length s → after ≡ s

-- migrating s is refused with a number and a place, whatever the buffer, and nothing is written
pub record RefusedAs (s : List ℕ) (n place : ℕ) : Type 0 where
  pub no_length : migrated_length_of s ≡ refused_length n place
  pub answer : (out after : List ℕ) (r : PlanWritten) → Migrates s out after r → r ≡ record { number = n; place = place }
  pub nothing_written : (out after : List ℕ) (r : PlanWritten) → Migrates s out after r → after ≡ out

pub record MigrationTheorems : Type 0 where
  -- what migrating writes reads by the present rule as the rows that the old rule read
  pub migrated : (s : List ℕ) (l : List Row) → old_plan_of s ≡ rows l → MigratesTo s (row_destinations l)
  -- it is refused as reading by the old rule is
  pub refused_as_read : (s : List ℕ) (n place : ℕ) → old_plan_of s ≡ refused n place → RefusedAs s n place
  -- a plan that keeps the present rule has the same rows by the old one, and is written as it is
  pub same_rows : (s : List ℕ) (l : List Row) → plan_of s ≡ rows l → old_plan_of s ≡ rows l
  pub as_it_is : (s : List ℕ) → Bytes s → (summary_of s).number ≡ done → StaysAsItIs s
  -- the place of either answer is never past the plan's length, and is 0 unless the number is 9
  pub length_place : (s : List ℕ) → PlaceIn s (migrated_length_of s).number (migrated_length_of s).place
  pub place : (s out after : List ℕ) (r : PlanWritten) → Migrates s out after r → PlaceIn s r.number r.place
  -- no plan becomes longer
  pub no_longer : (s : List ℕ) → (migrated_length_of s).length ≤ length s
