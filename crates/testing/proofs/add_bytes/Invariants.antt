-- What is left of the bytes, added to the checksum so far, gives the checksum of all of them.
use Rattle.std.proofs.Common.{◌≡◌, drop}
use Rattle.testing.specs.Data.{add_bytes}
use Rattle.testing.proofs.add_bytes.Given as goal

abbrev pub invariant-loop-byte : goal.invariant-loop-byte
invariant-loop-byte l = add_bytes l.all (drop l.byte-index l.bytes) ≡ add_bytes l.sum l.bytes
