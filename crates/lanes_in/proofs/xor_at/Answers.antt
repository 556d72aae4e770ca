-- The shift loses no bit, since a byte is below 2 ^ 8 and is shifted by at most 56.
use Rattle.std.proofs.Common.{◌*◌, ◌%◌, rules, arith}
use lib.Pow.{shl_exact}
use Rattle.fips202.specs.Bytes.{xor_byte}
use Rattle.lanes_in.proofs.xor_at.Goals as goal

pub returns : goal.returns
unfolding xor_byte
returns c = rw (c.from.ensures, shl_exact {a = c.args.b} 8 (8 * (c.args.p % 8)) 64 (search rules) (omega arith))
