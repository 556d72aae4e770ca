-- The bytes passed are put in.
use Rattle.std.proofs.Common.{◌≡◌, ◌<◌, take}
use Rattle.encode.specs.Padding.{rate}
use Rattle.sponge.specs.Running.{state_of, absorbed}
use Rattle.one_shot.proofs.absorb_ending.Given as goal

abbrev pub invariant-loop-b : goal.invariant-loop-b
invariant-loop-b l = (l.sponge.position < rate) × (state_of l.sponge ≡ absorbed (state_of l.fn.sponge) (take l.b-index l.ending))
