-- Whole blocks of input (FIPS 202, chapter 4).
use Rattle.std.specs.Prelude.{List, ℕ, zero, suc, take, drop}
use Rattle.fips202.specs.Fips202.{keccak_p}
use Rattle.fips202.specs.Bytes.{xor_bytes}
use Rattle.encode.specs.Padding.{rate}

-- algorithm 8, step 6: n blocks of input, each put in and permuted
unfoldable pub absorb : ℕ → List ℕ → List ℕ → List ℕ
absorb zero a m = a
absorb (suc n) a m = absorb n (keccak_p (xor_bytes a 0 (take rate m))) (drop rate m)
