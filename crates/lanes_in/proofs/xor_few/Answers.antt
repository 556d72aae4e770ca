-- A turn adds a byte (`Lanes.next_byte`).
use Rattle.std.proofs.Common.{◌∙◌, refl}
use Rattle.fips202.specs.Bytes.{xor_bytes}
use Rattle.lanes_in.proofs.Lanes.{next_byte}
use Rattle.lanes_in.proofs.xor_few.Goals as goal

pub loop-i-init : goal.loop-i-init
unfolding xor_bytes
loop-i-init c = refl

pub loop-i-preserved : goal.loop-i-preserved
loop-i-preserved c =
    c.xor_at.ensures ∙ rw c.loop-i.invariant (next_byte c.args.piece.now c.args.lanes.now c.args.p c.loop-i.i c.loop-i-test.true)
