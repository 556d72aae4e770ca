-- What the migration program writes (docs/RULES.md, 'Migration'): the plan of the rows that the old rule reads, or nothing where it is refused.
use Rattle.std.specs.Prelude.{ℕ, ◌≤◌, ◌≡◌, List, [], length, take}
use Rattle.plan_read.specs.Plan.{Plan, rows, refused, row_destinations}
use Rattle.plan_length.specs.Length.{written_plan}
use Rattle.plan_migration.specs.Migration.{old_plan_of}

abbrev pub output : Plan → List ℕ
output (rows l) = written_plan (row_destinations l)
output (refused n place) = []

-- migrating the plan s into a buffer leaves `after` in it, the first n bytes of which are to be written: the output, if the buffer is no shorter than the plan
pub record Leaves (s out after : List ℕ) (n : ℕ) : Type 0 where
  pub inside : n ≤ length out
  pub bytes : length s ≤ length out → take n after ≡ output (old_plan_of s)
