-- An encoded string, and strings padded to whole blocks, put into the sponge by calls in a row.
use mathlib.Core.Path.{◌≡◌, refl, sym, ap, ◌∙◌}
use mathlib.Core.List.{List, [], ◌∷◌, ◌++◌, append_assoc}
use Prim.Native.Nat.{ℕ, ◌+◌, ◌-◌, ◌*◌, ◌%◌, ◌≤◌, ◌<◌}
use native.Mathlib.Omega.{arith}
use borrow.Author.Rules.{rules}
use lib.ListN.{length, replicate}
use Rattle.fips202.specs.Bytes.{xor_bytes}
use Rattle.fips202.specs.Laws.Bytes.{xor_bytes-append, xor_bytes-zeros}
use Rattle.encode.specs.Digits.{digits, number_of, width_in}
use Rattle.encode.specs.Padding.{rate, pad_to, shortfall}
use Rattle.encode.specs.Encode.{big_endian, left_encode, encode_string, bytepad, KMAC}
use Rattle.encode.specs.Laws.Bytes.{Bytes}
use Rattle.encode.proofs.Laws.Bytes.{append_bytes, left_encode-bytes, digits_number_of}
use Rattle.sponge.specs.Running.{Running, running, absorbed}
use Rattle.sponge.proofs.Absorbing.{absorbed_in}
use Rattle.sponge.proofs.Chain.{then_absorbed, then_padded}
use Rattle.start.specs.Limits.{longest_string}

-- left_encode of the string's bits, then the string
pub string_absorbed : (s : Running) (b c code l : List ℕ) (p q : ℕ) → code ≡ left_encode (8 * length l) → p < rate → running b p ≡ absorbed s code
    → running c q ≡ absorbed (running b (p % rate)) l → running c q ≡ absorbed s (encode_string l)
unfolding encode_string
string_absorbed s b c code l p q is h first second = then_absorbed s b c code p q h first l second ∙ ap (λ (x : List ℕ). absorbed s (x ++ l)) is

-- ---- bytes put in as the number of a lane

-- at most eight bytes as the number of lane i: zeros after them change nothing
pub number_absorbed : (l a b : List ℕ) (i w : ℕ) → Bytes l → length l ≤ 8 → 8 * i + length l < rate → w ≡ number_of 256 l
    → b ≡ xor_bytes a (8 * i) (digits 256 8 w) → running b (8 * i + length l) ≡ absorbed (running a (8 * i)) l
number_absorbed l a b i w bytes h room is e =
    let m : length l + (8 - length l) ≡ 8 = omega arith in
    let d : digits 256 8 w ≡ l ++ replicate (8 - length l) 0
    = ap (digits 256 8) is ∙ ap (λ (k : ℕ). digits 256 k (number_of 256 l)) (sym m) ∙ digits_number_of l (8 - length l) bytes in
    ap (λ (x : List ℕ). running x (8 * i + length l))
    (e
    ∙ ap (xor_bytes a (8 * i)) d
    ∙ xor_bytes-append l (replicate (8 - length l) 0) a (8 * i)
    ∙ xor_bytes-zeros (8 - length l) (xor_bytes a (8 * i) l) (8 * i + length l))
    ∙ sym (absorbed_in l a (8 * i) room)

-- the bytes h and left_encode of a string's bits in lane i, then the string, at the position n after them
pub headed_absorbed : (a b c h s : List ℕ) (i w n q : ℕ) → Bytes h → length s ≤ longest_string → length (h ++ left_encode (8 * length s)) ≤ 8 → i ≤ 1
    → w ≡ number_of 256 (h ++ left_encode (8 * length s)) → n ≡ 8 * i + length (h ++ left_encode (8 * length s))
    → b ≡ xor_bytes a (8 * i) (digits 256 8 w) → running c q ≡ absorbed (running b (n % rate)) s
    → running c q ≡ absorbed (running a (8 * i)) (h ++ encode_string s)
unfolding encode_string
headed_absorbed a b c h s i w n q bytes short fits place is counted first second =
    let code : List ℕ = left_encode (8 * length s) in
    let from : Running = running a (8 * i) in
    let head : running b n ≡ absorbed from (h ++ code)
    = ap (running b) counted
    ∙ number_absorbed (h ++ code) a b i w (append_bytes h code bytes (left_encode-bytes (8 * length s) (omega arith))) fits (omega arith) is first in
    then_absorbed from b c (h ++ code) n q (omega (arith, counted)) head s second ∙ ap (absorbed from) (append_assoc h code s)

-- left_encode of the rate
abbrev pub encoded_rate : List ℕ
encoded_rate = 0x01 ∷ 0x88 ∷ []

pub rate_encoded : left_encode rate ≡ encoded_rate
unfolding left_encode big_endian width_in
rate_encoded = refl

-- and encode_string("KMAC"): a lane
pub kmac_length : length (encode_string KMAC) ≡ 6
unfolding left_encode big_endian width_in encode_string
kmac_length = refl

pub kmac_absorbed : (a b : List ℕ) → b ≡ xor_bytes a 0 (digits 256 8 0x4341_4d4b_2001_8801)
    → running b 8 ≡ absorbed (running a 0) (left_encode rate ++ encode_string KMAC)
unfolding left_encode big_endian width_in encode_string
kmac_absorbed a b e =
    let l : List ℕ = encoded_rate ++ (0x01 ∷ 0x20 ∷ KMAC) in
    number_absorbed l a b 0 0x4341_4d4b_2001_8801 (search rules) (omega arith) (omega arith) refl e

-- ---- strings padded to whole blocks

-- two strings in a row
pub joined_strings : (a b c x y : List ℕ) (p q : ℕ) → p < rate → running b p ≡ absorbed (running a 0) (left_encode rate ++ x)
    → running c q ≡ absorbed (running b (p % rate)) y → running c q ≡ absorbed (running a 0) (left_encode rate ++ (x ++ y))
joined_strings a b c x y p q h first second =
    then_absorbed (running a 0) b c (left_encode rate ++ x) p q h first y second ∙ ap (absorbed (running a 0)) (append_assoc (left_encode rate) x y)

pub padded : (a c d x : List ℕ) (p q : ℕ) → p < rate → running c p ≡ absorbed (running a 0) (left_encode rate ++ x)
    → running d q ≡ absorbed (running c (p % rate)) (replicate (shortfall rate p) 0) → running d q ≡ absorbed (running a 0) (bytepad x rate)
unfolding bytepad pad_to
padded a c d x p q h all last = then_padded (running a 0) c d (left_encode rate ++ x) p q h all refl last
