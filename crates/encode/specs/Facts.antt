-- P1 to P7 of docs/RULES.md, 'Facts', and the bytes it names at the end of a last block with one free byte. proofs/Facts.antt proves them by computation.
use Rattle.std.specs.Prelude.{◌≡◌, [], ◌∷◌, ◌*◌, ◌-◌, length, get_or, replicate}
use Rattle.encode.specs.Padding.{rate, padded}
use Rattle.encode.specs.Encode.{left_encode, right_encode, encode_string, bytepad, KMAC}

pub record Facts : Type 0 where
  pub p1 : left_encode 0 ≡ 0x01 ∷ 0x00 ∷ []
  pub p2 : right_encode 0 ≡ 0x00 ∷ 0x01 ∷ []
  pub p3 : left_encode 255 ≡ 0x01 ∷ 0xff ∷ []
  pub p4 : left_encode 256 ≡ 0x02 ∷ 0x01 ∷ 0x00 ∷ []
  pub p5 : right_encode 256 ≡ 0x01 ∷ 0x00 ∷ 0x02 ∷ []
  pub p6 : encode_string KMAC ≡ 0x01 ∷ 0x20 ∷ 0x4b ∷ 0x4d ∷ 0x41 ∷ 0x43 ∷ []
  pub p7 : left_encode 136 ≡ 0x01 ∷ 0x88 ∷ []

-- one free byte takes the suffix and the last bit; none free, and the padding is a block of its own
pub record LastBlock : Type 0 where
  pub last_of_shake : get_or (padded 0x1f (replicate (rate - 1) 0)) (rate - 1) 0 ≡ 0x9f
  pub last_of_cshake : get_or (padded 0x04 (replicate (rate - 1) 0)) (rate - 1) 0 ≡ 0x84
  pub full : length (padded 0x04 (replicate rate 0)) ≡ 2 * rate
  -- bytepad adds no block to bytes that fill theirs
  pub no_block_more : length (bytepad (replicate (rate - 2) 0) rate) ≡ rate
  pub block_more : length (bytepad (replicate (rate - 1) 0) rate) ≡ 2 * rate
