-- Padding to whole blocks: the zeros of bytepad (SP 800-185, 2.3.3), and the suffix byte with pad10*1 (FIPS 202, 5.1 and B.2) at the rate of 136 bytes.
use Rattle.std.specs.Prelude.{List, [], ◌∷◌, ◌++◌, ℕ, ◌+◌, ◌-◌, ◌/◌, ◌%◌, length, get_or, set, replicate}
use Rattle.std.specs.Int.Bits.{bit_xor}

-- the bytes of a block: 1,600 bits less twice 256 (SP 800-185, 3.2)
abbrev pub rate : ℕ
rate = 136

-- the blocks that n bytes take, the last one perhaps in part
abbrev pub blocks : ℕ → ℕ
blocks n = (n + (rate - 1)) / rate

-- how many whole blocks s has from `at` on
abbrev pub whole_blocks : List ℕ → ℕ → ℕ
whole_blocks s at = (length s - at) / rate

-- how many bytes n falls short of a multiple of r
abbrev pub shortfall : ℕ → ℕ → ℕ
shortfall r n = (r - n % r) % r

-- zero bytes to a multiple of r
unfoldable pub pad_to : ℕ → List ℕ → List ℕ
pad_to r l = l ++ replicate (shortfall r (length l)) 0

-- 80, the last bit of pad10*1, put into the last byte by exclusive or
unfoldable pub with_last_bit : List ℕ → List ℕ
with_last_bit l = set l (length l - 1) (bit_xor (get_or l (length l - 1) 0) 0x80)

-- the bytes m, the suffix byte s, zeros to the end of the last block, and the last bit
unfoldable pub padded : ℕ → List ℕ → List ℕ
padded s m = with_last_bit (pad_to rate (m ++ (s ∷ [])))

-- what `padded` puts after m where q bytes, one or more, are free in the last block
unfoldable pub padding : ℕ → ℕ → List ℕ
padding s q = with_last_bit (s ∷ replicate (q - 1) 0)
