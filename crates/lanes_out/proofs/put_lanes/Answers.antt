-- A turn adds the eight bytes of a lane (`Lanes.next_lane`, `Lanes.put_next`).
use Rattle.std.proofs.Common.{◌≡◌, ◌∙◌, ◌+◌, ◌-◌, ◌*◌, ◌/◌, ◌<◌, length, take, drop, refl, ℕ, ◌++◌, ap, arith}
use Rattle.std.proofs.lemmas.List.{length-take}
use Rattle.fips202.specs.Bytes.{bytes_at}
use Rattle.lanes_out.proofs.Lanes.{next_lane, put_next}
use Rattle.lanes_out.proofs.put_lanes.Goals as goal

pub loop-i-init : goal.loop-i-init
unfolding bytes_at
loop-i-init c = refl

pub loop-i-preserved : goal.loop-i-preserved
loop-i-preserved c =
    let a = c.args.lanes.now in
    let q = c.args.q in
    let i = c.loop-i.i in
    let m = q + length c.args.out.now / 8 - q in
    let e : 8 * i + 8 ≡ 8 * (i + 1) = omega arith in
    let here : i < length (take m (drop q a)) = c.loop-i-test.true in
    let few : i < m = omega (arith, length-take m (drop q a)) in
    let new = c.copy_from_slice.new.self in
    let lane = next_lane new a q m i few (c.copy_from_slice.ensures.after ∙ c.to_le_bytes.ensures) in
    put_next c.args.out.now c.loop-i.out new a (8 * q) (8 * i) (8 * i + 8 - 8 * i) 8 (omega arith) c.loop-i.invariant lane
    ∙ ap (λ (j : ℕ). bytes_at a (8 * q) j ++ drop j c.args.out.now) e
