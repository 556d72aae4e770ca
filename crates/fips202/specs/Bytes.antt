-- Bytes of the state: byte p is byte p % 8 of lane p / 8, the low byte first (FIPS 202, 3.1.2 and B.1).
use Rattle.std.specs.Prelude.{List, [], ◌∷◌, ℕ, zero, suc, ◌+◌, ◌*◌, ◌/◌, ◌%◌, ◌^◌, get_or, set}
use Rattle.std.specs.Int.Bits.{bit_xor}

-- the byte b put in at byte p by exclusive or
unfoldable pub xor_byte : List ℕ → ℕ → ℕ → List ℕ
xor_byte a p b = set a (p / 8) (bit_xor (get_or a (p / 8) 0) (b * 2 ^ (8 * (p % 8))))

-- the bytes put in at p, p + 1, ..
unfoldable pub xor_bytes : List ℕ → ℕ → List ℕ → List ℕ
xor_bytes a p [] = a
xor_bytes a p (b ∷ bs) = xor_bytes (xor_byte a p b) (p + 1) bs

-- byte p of the state
unfoldable pub byte_at : List ℕ → ℕ → ℕ
byte_at a p = get_or a (p / 8) 0 / 2 ^ (8 * (p % 8)) % 256

-- n bytes from p on
unfoldable pub bytes_at : List ℕ → ℕ → ℕ → List ℕ
bytes_at a p zero = []
bytes_at a p (suc n) = byte_at a p ∷ bytes_at a (p + 1) n
