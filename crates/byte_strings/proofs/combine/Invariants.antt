-- The bytes passed are combined, and combining the rest gives the whole.
use Rattle.byte_strings.specs.Combined.{combined}
use Rattle.byte_strings.proofs.Combining.{Left}
use Rattle.byte_strings.proofs.combine.Given as goal

abbrev pub invariant-loop-i : goal.invariant-loop-i
invariant-loop-i l = Left l.text l.out l.i (combined l.text l.initial.out)
