-- Laws that encoded and padded bytes are bytes: numbers below 256. Here a number's width counts, since the number of its bytes has to fit a byte.
use Rattle.std.specs.Prelude.{◌≡◌, refl, ℕ, zero, suc, ◌+◌, ◌*◌, ◌-◌, ◌/◌, ◌%◌, ◌^◌, ◌<◌, length, get_or, set, replicate}
use Rattle.std.proofs.Common.{ap, zero-add, suc-add, arith}
use mathlib.Core.List.{List, [], ◌∷◌, ◌++◌, reverse_aux}
use Rattle.std.specs.Int.Bits.{bit_xor}
use Rattle.std.proofs.lemmas.Nat.{xor_lt}
use Rattle.encode.specs.Digits.{digits, number_of, width}
use Rattle.encode.specs.Padding.{rate, shortfall, pad_to, with_last_bit, padded}
use Rattle.encode.specs.Encode.{big_endian, left_encode, right_encode, encode_string, bytepad}
use Rattle.encode.specs.Laws.Bytes.{Bytes}
use Rattle.encode.specs.Laws.Digits.{width_fewest}
use Rattle.encode.proofs.Laws.Lengths.{length_big_endian}

pub append_bytes : (a b : List ℕ) → Bytes a → Bytes b → Bytes (a ++ b)
append_bytes [] b p q = q
append_bytes (x ∷ a) b p q = (p.0, append_bytes a b p.1 q)

pub get_d_bytes : (l : List ℕ) (i : ℕ) → Bytes l → get_or l i 0 < 256
get_d_bytes [] i p = omega arith
get_d_bytes (x ∷ l) zero p = p.0
get_d_bytes (x ∷ l) (suc i) p = get_d_bytes l i p.1

zeros_bytes : (n : ℕ) → Bytes (replicate n 0)
zeros_bytes zero = tt
zeros_bytes (suc n) = (omega arith, zeros_bytes n)

reverse_bytes : (a b : List ℕ) → Bytes a → Bytes b → Bytes (reverse_aux a b)
reverse_bytes [] b p q = q
reverse_bytes (x ∷ a) b p q = reverse_bytes a (x ∷ b) p.1 (p.0, q)

set_bytes : (l : List ℕ) (i v : ℕ) → Bytes l → v < 256 → Bytes (set l i v)
set_bytes [] i v p h = tt
set_bytes (x ∷ l) zero v p h = (h, p.1)
set_bytes (x ∷ l) (suc i) v p h = (p.0, set_bytes l i v p.1 h)

pub digits_bytes : (k n : ℕ) → Bytes (digits 256 k n)
digits_bytes zero n = tt
digits_bytes (suc k) n = (omega arith, digits_bytes k (n / 256))

-- the digits of the number that bytes make are the bytes, and zeros above them
digits_zero : (m : ℕ) → digits 256 m 0 ≡ replicate m 0
digits_zero zero = refl
digits_zero (suc m) = ap (λ (l : List ℕ). 0 ∷ l) (digits_zero m)

pub digits_number_of : (l : List ℕ) (m : ℕ) → Bytes l → digits 256 (length l + m) (number_of 256 l) ≡ l ++ replicate m 0
digits_number_of [] m p = rw zero-add (digits_zero m)
digits_number_of (x ∷ l) m p =
    let low : (number_of 256 l * 256 + x) % 256 ≡ x = omega (arith, p.0) in
    let high : (number_of 256 l * 256 + x) / 256 ≡ number_of 256 l = omega (arith, p.0) in
    rw (suc-add, low, high) (ap (λ (r : List ℕ). x ∷ r) (digits_number_of l m p.1))

big_endian-bytes : (n : ℕ) → Bytes (big_endian n)
unfolding big_endian
big_endian-bytes n = reverse_bytes (digits 256 (width 256 n) n) [] (digits_bytes (width 256 n) n) tt

number_byte : (n : ℕ) → n < 2 ^ 64 → length (big_endian n) < 256
number_byte n h = omega (arith, length_big_endian n, width_fewest 256 (omega arith) n n 8 (omega arith) h)

pub left_encode-bytes : (n : ℕ) → n < 2 ^ 64 → Bytes (left_encode n)
unfolding left_encode
left_encode-bytes n h = (number_byte n h, big_endian-bytes n)

pub right_encode-bytes : (n : ℕ) → n < 2 ^ 64 → Bytes (right_encode n)
unfolding right_encode
right_encode-bytes n h = append_bytes (big_endian n) (length (big_endian n) ∷ []) (big_endian-bytes n) (number_byte n h, tt)

pub encode_string-bytes : (s : List ℕ) → length s < 2 ^ 61 → Bytes s → Bytes (encode_string s)
unfolding encode_string
encode_string-bytes s h p = append_bytes (left_encode (8 * length s)) s (left_encode-bytes (8 * length s) (omega arith)) p

pad_to-bytes : (r : ℕ) (l : List ℕ) → Bytes l → Bytes (pad_to r l)
unfolding pad_to
pad_to-bytes r l p = append_bytes l (replicate (shortfall r (length l)) 0) p (zeros_bytes (shortfall r (length l)))

pub bytepad_bytes : (x : List ℕ) (w : ℕ) → w < 2 ^ 64 → Bytes x → Bytes (bytepad x w)
unfolding bytepad
bytepad_bytes x w h p = pad_to-bytes w (left_encode w ++ x) (append_bytes (left_encode w) x (left_encode-bytes w h) p)

pub padded_bytes : (s : ℕ) (m : List ℕ) → s < 256 → Bytes m → Bytes (padded s m)
unfolding padded with_last_bit
padded_bytes s m h p =
    let l : List ℕ = pad_to rate (m ++ (s ∷ [])) in
    let k : ℕ = length l - 1 in
    let q : Bytes l = pad_to-bytes rate (m ++ (s ∷ [])) (append_bytes m (s ∷ []) p (h, tt)) in
    set_bytes l k (bit_xor (get_or l k 0) 0x80) q (xor_lt 8 (get_or l k 0) 0x80 (get_d_bytes l k q) (omega arith))
