-- The bytes counted so far, with those of the entries to come, make the length: each turn counts one entry, and a count past the limit ends the counting.
use Rattle.hall_length.proofs.Counting.{Counting}
use Rattle.hall_length.proofs.entries_length.Given as goal

abbrev pub invariant-loop-i : goal.invariant-loop-i
invariant-loop-i l = Counting l.kinds l.values l.first l.length l.i
