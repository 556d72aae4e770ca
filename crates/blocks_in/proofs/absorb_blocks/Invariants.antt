-- What is left to absorb after i blocks gives the answer.
use Rattle.std.proofs.Common.{◌≡◌, ℕ, ◌+◌, ◌*◌, ◌≤◌, length}
use Rattle.std.specs.Prelude.{drop}
use Rattle.encode.specs.Padding.{rate, whole_blocks}
use Rattle.in_place.specs.Rounds.{state_of}
use Rattle.blocks_in.specs.Blocks.{absorb}
use Rattle.blocks_in.proofs.absorb_blocks.Given as goal

abbrev pub invariant-loop-i : goal.invariant-loop-i
invariant-loop-i l =
    absorb (whole_blocks l.s (l.from + rate * l.i)) (state_of l.c.evens l.c.odds) (drop (l.from + rate * l.i) l.s)
    ≡ absorb (whole_blocks l.s l.from) l.fn.lanes (drop l.from l.s)
