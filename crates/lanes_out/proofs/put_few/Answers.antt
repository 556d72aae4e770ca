-- A turn adds a byte (`Lanes.put_byte`).
use Rattle.std.proofs.Common.{refl}
use Rattle.fips202.specs.Bytes.{bytes_at}
use Rattle.lanes_out.proofs.Lanes.{put_byte}
use Rattle.lanes_out.proofs.put_few.Goals as goal

pub loop-i-init : goal.loop-i-init
unfolding bytes_at
loop-i-init c = refl

pub loop-i-preserved : goal.loop-i-preserved
loop-i-preserved c =
    rw c.byte_at.ensures (put_byte c.args.out.now c.loop-i.out c.args.lanes.now c.args.p c.loop-i.i c.loop-i.invariant c.loop-i-test.true)
