-- What is left to squeeze after i blocks gives the answer.
use Rattle.std.proofs.Common.{◌≡◌, ℕ, ◌+◌, ◌*◌}
use Rattle.std.proofs.lemmas.List.Edits.{sets}
use Rattle.fips202.specs.Fips202.{keccak_p}
use Rattle.encode.specs.Padding.{rate, whole_blocks}
use Rattle.in_place.specs.Rounds.{state_of}
use Rattle.blocks_out.specs.Blocks.{squeeze, permuted}
use Rattle.blocks_out.proofs.squeeze_blocks.Given as goal

abbrev pub invariant-loop-i : goal.invariant-loop-i
invariant-loop-i l =
    (permuted (whole_blocks l.initial.out (l.from + rate * l.i)) (state_of l.c.evens l.c.odds)
    ≡ permuted (whole_blocks l.initial.out l.from) l.fn.lanes)
    × (sets l.out (l.from + rate * l.i) (squeeze (whole_blocks l.initial.out (l.from + rate * l.i)) (keccak_p (state_of l.c.evens l.c.odds)))
    ≡ sets l.initial.out l.from (squeeze (whole_blocks l.initial.out l.from) (keccak_p l.fn.lanes)))
