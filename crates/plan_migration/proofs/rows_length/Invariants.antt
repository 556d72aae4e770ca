-- The bytes counted so far, with the rows to come, make the length: each turn reads one row and counts it, and anything but a row ends the reading.
-- At most three bytes a number keep the sum small.
use Rattle.std.proofs.Common.{◌≡◌, ◌+◌, ◌-◌, ◌*◌, ◌≤◌, drop}
use Rattle.leb128_write.specs.Answers.{number_length}
use Rattle.old_number.specs.OldNumber.{old_number}
use Rattle.plan_read.specs.Plan.{rows_by}
use Rattle.plan_migration.specs.Room.{length_with}
use Rattle.plan_migration.proofs.rows_length.Given as goal

abbrev pub invariant-loop : goal.invariant-loop
invariant-loop l = record {
  small : l.length ≤ 3 + 3 * l.counter;
  answer : length_with l.length (rows_by old_number (l.count - l.counter) l.at (drop l.at l.plan))
      ≡ length_with (number_length l.fn.count) (rows_by old_number l.fn.count l.fn.first (drop l.fn.first l.fn.plan));
}
