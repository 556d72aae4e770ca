-- The logarithm's two bounds fix the width (`BigEndian.width_is`).
use Rattle.std.proofs.Common.{◌≡◌, ◌+◌, arith}
use Rattle.encode.specs.Digits.{width}
use Rattle.encode.proofs.BigEndian.{width_is, width_in_eight}
use Rattle.encode.proofs.width_of.Goals as goal

pub returns : goal.returns
returns c =
    let is : c.ilog.result + 1 ≡ width 256 c.args.n =
    width_is c.args.n c.ilog.result (rw c.max.ensures at c.ilog.ensures.power_le) (rw c.max.ensures at c.ilog.ensures.next_power_gt) in
    (is, omega (arith, width_in_eight c.args.n c.ranges.n.fits))
