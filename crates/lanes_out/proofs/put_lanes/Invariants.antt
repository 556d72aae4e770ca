-- The lanes passed stand in `out`.
use Rattle.std.proofs.Common.{◌≡◌, ◌++◌, ◌*◌, drop}
use Rattle.fips202.specs.Bytes.{bytes_at}
use Rattle.lanes_out.proofs.put_lanes.Given as goal

abbrev pub invariant-loop-i : goal.invariant-loop-i
invariant-loop-i l = l.out ≡ bytes_at l.lanes (8 * l.q) (8 * l.i) ++ drop (8 * l.i) l.fn.out
