-- The stores of the rows to come, made on what is stored so far, are the stores of all rows: each turn reads one row and stores it.
-- The rows to come can be read, are allowed, and there is room for them, so that each is written.
use Rattle.std.proofs.Common.{◌≡◌, ◌-◌, length, drop}
use Rattle.std.proofs.Math.Seq.{sets}
use Rattle.old_number.specs.OldNumber.{old_number}
use Rattle.plan_read.specs.Plan.{rows_by}
use Rattle.plan_length.specs.Length.{written_rows}
use Rattle.plan_migration.specs.Room.{RowsRoom, destinations_in}
use Rattle.plan_migration.proofs.put.put_rows.Given as goal

abbrev pub invariant-loop : goal.invariant-loop
invariant-loop l = record {
  room : RowsRoom (rows_by old_number (l.count - l.counter) l.at (drop l.at l.plan)) l.to (length l.out);
  stored : sets l.out l.to (written_rows (destinations_in (rows_by old_number (l.count - l.counter) l.at (drop l.at l.plan))))
      ≡ sets l.fn.out l.fn.start (written_rows (destinations_in (rows_by old_number l.fn.count l.fn.first (drop l.fn.first l.fn.plan))));
}
