-- What the private function `placed` hands back; no public contract cites it.
use Rattle.std.specs.Prelude.{◌≡◌, ◌++◌, ℕ, ◌+◌, ◌-◌, ◌≤◌, length, replicate}
use Rattle.encode.specs.declared.Encoded.{Encoded}
use Rattle.encode.specs.Encode.{big_endian}

-- nine bytes with those of n, the highest first, from place `at` on, zeros elsewhere, and the place after the bytes
pub record PlacedAt (at n : ℕ) (r : Encoded) : Type 0 where
  pub len_is : r.len ≡ at + length (big_endian n)
  pub fits : length (big_endian n) ≤ 8
  pub bytes_are : r.bytes ≡ replicate at 0 ++ (big_endian n ++ replicate (9 - r.len) 0)
