-- A turn adds a byte (`Chain.byte_more`).
use Rattle.std.proofs.Common.{arith, refl}
use Rattle.sponge.specs.Running.{state_of, absorbed}
use Rattle.one_shot.proofs.Chain.{byte_more}
use Rattle.one_shot.proofs.absorb_ending.Goals as goal

pub loop-b-init : goal.loop-b-init
unfolding absorbed
loop-b-init c = (c.requires, refl)

pub loop-b-preserved : goal.loop-b-preserved
loop-b-preserved c =
    let l = c.loop-b in
    let next = c.absorb_byte.new.self in (
      c.absorb_byte.ensures.1,
      byte_more (state_of c.args.sponge.now) c.args.ending.now l.sponge.lanes next.lanes l.sponge.position next.position l.b-index (omega arith)
          l.invariant.0 l.invariant.1 c.absorb_byte.ensures.0,
    )
