-- Whole blocks of output (FIPS 202, chapter 4).
use Rattle.std.specs.Prelude.{List, [], ◌++◌, ℕ, zero, suc}
use Rattle.fips202.specs.Fips202.{keccak_p}
use Rattle.fips202.specs.Bytes.{bytes_at}
use Rattle.encode.specs.Padding.{rate}

-- algorithm 8, steps 7, 8 and 10: n blocks of output, permuted between
unfoldable pub squeeze : ℕ → List ℕ → List ℕ
squeeze zero a = []
squeeze (suc n) a = bytes_at a 0 rate ++ squeeze n (keccak_p a)

-- the lanes after n permutations
unfoldable pub permuted : ℕ → List ℕ → List ℕ
permuted zero a = a
permuted (suc n) a = permuted n (keccak_p a)
