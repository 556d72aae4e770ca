-- Numbers in bytes, and the checksum that the gate's programs print instead of long outputs: a polynomial at 257 modulo 2^32 - 5.
use Rattle.std.specs.Prelude.{List, [], ◌∷◌, ℕ, ◌+◌, ◌*◌, ◌%◌, get_or, drop}

abbrev pub modulus : ℕ
modulus = 4294967291

-- the checksum s taken on by the number n
abbrev pub add_number : ℕ → ℕ → ℕ
add_number s n = (s % modulus * 257 + n % modulus + 1) % modulus

unfoldable pub add_bytes : ℕ → List ℕ → ℕ
add_bytes s [] = s
add_bytes s (b ∷ bs) = add_bytes (add_number s b) bs

-- the numbers that the first two and the first four bytes make, lowest byte first
abbrev pub half_of : List ℕ → ℕ
half_of s = get_or s 0 0 + 256 * get_or s 1 0

abbrev pub word_of : List ℕ → ℕ
word_of s = half_of s + 65536 * half_of (drop 2 s)
