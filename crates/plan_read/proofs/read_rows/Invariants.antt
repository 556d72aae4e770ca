-- What the lookup keeps of the rows read, with the rows to come, makes the answer: a turn that reads a row keeps this, any other ends the reading.
-- It keeps where the chute's row starts, or the plan's end, where none stands (`Rows.keeping_start`): what is read there at the end is the row kept.
use Rattle.std.proofs.Common.{◌≡◌, ◌-◌, drop}
use Rattle.plan_read.specs.Plan.{rows_from, plan_answer}
use Rattle.plan_read.proofs.Rows.{row_there, keeping}
use Rattle.plan_read.proofs.read_rows.Given as goal

abbrev pub invariant-loop-i : goal.invariant-loop-i
invariant-loop-i l = record {
  answer : keeping l.chute l.i (row_there l.kept l.plan) (rows_from (l.count - l.i) l.at (drop l.at l.plan))
      ≡ plan_answer l.fn.chute (rows_from l.fn.count l.fn.first (drop l.fn.first l.fn.plan));
}
