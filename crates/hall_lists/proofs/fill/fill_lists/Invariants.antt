-- The stores of the entries to come, made on what is stored so far, are the stores of all entries: each turn stores one.
use Rattle.std.proofs.Common.{length}
use Rattle.hall_lists.proofs.Filling.{Filling}
use Rattle.hall_lists.proofs.fill.fill_lists.Given as goal

abbrev pub invariant-loop-i : goal.invariant-loop-i
invariant-loop-i l = Filling l.plan l.start l.fn.kinds l.fn.values (length l.fn.kinds) l.kinds l.values l.at l.i
