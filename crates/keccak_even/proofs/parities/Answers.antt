-- The code's operands stand in the definition's order, at the places of the lanes.
use Rattle.std.proofs.Common.{refl}
use Rattle.in_place.specs.Places.{lanes}
use Rattle.in_place.specs.Rounds.{parities}
use Rattle.keccak_even.proofs.parities.Goals as goal

pub returns : goal.returns
unfolding lanes parities
returns c = refl
