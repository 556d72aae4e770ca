-- The bytes counted so far, with the rows to come, make the length: each turn counts one row, and a row that is too large ends the count.
-- At most three bytes a number keep the sum small.
use Rattle.std.proofs.Common.{◌≡◌, ◌+◌, ◌*◌, ◌≤◌, drop}
use Rattle.plan_length.specs.Length.{length_of}
use Rattle.plan_length.proofs.Rows.{length_after}
use Rattle.plan_length.proofs.plan_length.Given as goal

abbrev pub invariant-loop-row : goal.invariant-loop-row
invariant-loop-row l = record {
  small : l.length ≤ 3 + 3 * l.row-index;
  answer : length_after l.length (drop l.row-index l.rows) ≡ length_of l.rows;
}
