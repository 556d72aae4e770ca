-- The bytes passed are put in.
use Rattle.std.proofs.Common.{◌≡◌, take}
use Rattle.fips202.specs.Bytes.{xor_bytes}
use Rattle.lanes_in.proofs.xor_few.Given as goal

abbrev pub invariant-loop-i : goal.invariant-loop-i
invariant-loop-i l = l.lanes ≡ xor_bytes l.fn.lanes l.p (take l.i l.piece)
