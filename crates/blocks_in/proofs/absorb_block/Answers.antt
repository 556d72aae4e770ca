-- The block put in, then the rounds.
use Rattle.std.proofs.Common.{ap, ◌∙◌}
use Rattle.in_place.specs.Rounds.{rounds_with}
use Rattle.blocks_in.proofs.absorb_block.Goals as goal

pub returns : goal.returns
returns c = c.rounds.ensures ∙ ap (rounds_with 24 c.args.k.now) c.xor_block.ensures
