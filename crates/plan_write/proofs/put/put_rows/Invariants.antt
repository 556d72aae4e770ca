-- The stores of the rows to come, made on what is stored so far, are the stores of all rows: each turn stores one row.
-- The rows to come are allowed, and there is room for them, so that each is written.
use Rattle.std.proofs.Common.{◌≡◌, ◌+◌, ◌≤◌, true, length, drop}
use Rattle.std.proofs.Math.Seq.{sets}
use Rattle.plan_length.specs.Length.{written_rows, rows_allowed}
use Rattle.plan_write.proofs.put.put_rows.Given as goal

abbrev pub invariant-loop-row : goal.invariant-loop-row
invariant-loop-row l = record {
  small : rows_allowed (drop l.row-index l.rows) ≡ true;
  room : l.at + length (written_rows (drop l.row-index l.rows)) ≤ length l.out;
  stored : sets l.out l.at (written_rows (drop l.row-index l.rows)) ≡ sets l.fn.out l.fn.first (written_rows l.fn.rows);
}
