-- The stores of the entries to come, made on what is stored so far, are the stores of all entries: each turn stores one entry, its kind and its value.
use Rattle.hall_write.proofs.Stores.{Putting}
use Rattle.hall_write.proofs.put.put_entries.Given as goal

abbrev pub invariant-loop-i : goal.invariant-loop-i
invariant-loop-i l = Putting l.kinds l.values l.fn.out l.first l.out l.at l.i
