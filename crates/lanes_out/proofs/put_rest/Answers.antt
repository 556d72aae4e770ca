-- The whole lanes, and what is left after them, are all of `out` (`Lanes.two_parts`).
use Rattle.std.proofs.Common.{◌*◌, ◌/◌, length, refl, arith}
use Rattle.lanes_out.proofs.Lanes.{two_parts}
use Rattle.lanes_out.proofs.put_rest.Goals as goal

pub returns : goal.returns
returns c =
    let out = c.args.out.now in
    two_parts out c.put_lanes.new.out c.put_few.new.out c.args.lanes.now (8 * c.args.q) (length out / 8 * 8) (omega arith)
    c.put_lanes.ensures _ refl c.put_few.ensures
