-- The bytes passed stand in `out`.
use Rattle.std.proofs.Common.{◌≡◌, ◌++◌, drop}
use Rattle.fips202.specs.Bytes.{bytes_at}
use Rattle.lanes_out.proofs.put_few.Given as goal

abbrev pub invariant-loop-i : goal.invariant-loop-i
invariant-loop-i l = l.out ≡ bytes_at l.lanes l.p l.i ++ drop l.i l.fn.out
