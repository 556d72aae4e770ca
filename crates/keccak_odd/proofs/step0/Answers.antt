-- The five stores are the row put in its places, by computation.
use Rattle.std.proofs.Common.{refl}
use Rattle.in_place.specs.Rounds.{put, taken}
use Rattle.keccak_odd.proofs.step0.Goals as goal

pub returns : goal.returns
unfolding put taken
returns c = (c.row0-e.ensures, refl)
