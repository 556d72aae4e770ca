-- By cases on whether the block has room, and `out` has: how many bytes that is, and the contract of what writes them (`Lanes.put_sets`).
use Rattle.std.proofs.Common.{◌≡◌, ◌*◌, refl, arith}
use Rattle.fips202.specs.Bytes.{bytes_at}
use Rattle.lanes_out.proofs.Lanes.{put_sets}
use Rattle.lanes_out.proofs.put_out.Goals as goal

pub returns-then-p-ge-RATE : goal.returns-then-p-ge-RATE
unfolding bytes_at
returns-then-p-ge-RATE c = (omega arith, refl)

pub returns-then-out-at : goal.returns-then-out-at
unfolding bytes_at
returns-then-out-at c = (omega arith, refl)

pub returns-then-n-eq-RATE : goal.returns-then-n-eq-RATE
returns-then-n-eq-RATE c =
    let start : 8 * 0 ≡ c.args.p = omega arith in
    let new = c.put_lanes.new.out in (
      omega (arith, c.min-n.ensures),
      put_sets c.args.out.now new c.args.lanes.now
          c.args.at c.args.p c.min-n.result _ (omega arith) (omega arith) (rw start at c.put_lanes.ensures),
    )

pub returns-else-n-eq-RATE : goal.returns-else-n-eq-RATE
returns-else-n-eq-RATE c = (
  omega (arith, c.min-n.ensures),
  put_sets c.args.out.now c.put_some.new.out c.args.lanes.now
      c.args.at c.args.p c.min-n.result _ (omega arith) (omega arith) c.put_some.ensures,
)
