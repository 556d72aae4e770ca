-- Migration (docs/RULES.md, 'Migration'): a chute plan is read by the old rule, under which a number may stand in more groups than it needs, and written as
-- any plan is. It is refused as reading it by the old rule is, with that place, and as writing its rows is.
use Rattle.std.specs.Prelude.{ℕ, ◌≡◌, List, length}
use Rattle.old_number.specs.OldNumber.{old_number}
use Rattle.plan_read.specs.Plan.{Plan, rows, refused, plan_by, row_destinations}
use Rattle.plan_length.specs.Length.{refused_length, length_of, write_answer}
use Rattle.plan_length.specs.declared.PlanLength.{PlanLength}
use Rattle.plan_length.specs.declared.PlanWritten.{PlanWritten}
use Rattle.plan_write.specs.Write.{write_refusal, written_of}

-- what a list of bytes is as a plan by the old rule
abbrev pub old_plan_of : List ℕ → Plan
old_plan_of s = plan_by old_number s

-- how long the migrated plan is: as long as the plan of its rows; or the refusal n, with its place
abbrev pub migrated_length : Plan → PlanLength
migrated_length (rows l) = length_of (row_destinations l)
migrated_length (refused n place) = refused_length n place

unfoldable pub migrated_length_of : List ℕ → PlanLength
migrated_length_of s = migrated_length (old_plan_of s)

-- the answer of migrating a plan into a buffer of `room` bytes
abbrev pub migrate_answer : ℕ → Plan → PlanWritten
migrate_answer room (rows l) = write_answer (write_refusal (row_destinations l) room)
migrate_answer room (refused n place) = record { number = n; place = place }

-- what the lent buffer holds afterwards: the plan of the rows, or what it held before
abbrev pub migrated_into : List ℕ → Plan → List ℕ
migrated_into out (rows l) = written_of (row_destinations l) out
migrated_into out (refused n place) = out

-- migrating the plan s into a lent buffer answers r, and leaves `after` in it
pub record Migrates (s out after : List ℕ) (r : PlanWritten) : Type 0 where
  pub answer : r ≡ migrate_answer (length out) (old_plan_of s)
  pub buffer : after ≡ migrated_into out (old_plan_of s)
