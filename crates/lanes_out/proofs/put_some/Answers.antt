-- The bytes before a lane begins, and the rest, are all of `out` (`Lanes.two_parts`).
use Rattle.std.proofs.Common.{◌≡◌, ◌+◌, ◌-◌, ◌*◌, ◌/◌, ◌%◌, ℕ, refl, arith}
use Rattle.lanes_out.proofs.Lanes.{two_parts}
use Rattle.lanes_out.proofs.put_some.Goals as goal

pub returns : goal.returns
returns c =
    let p = c.args.p in
    let begun : ℕ = (8 - p % 8) % 8 in
    let lane : 8 * ((p + begun) / 8) ≡ p + begun = omega arith in
    two_parts c.args.out.now c.put_few-2.new.out c.put_rest.new.out c.args.lanes.now p begun (omega arith) c.put_few-2.ensures _ refl
    (rw lane at c.put_rest.ensures)
