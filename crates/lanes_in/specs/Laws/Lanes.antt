-- Eight bytes as one lane: the code by lanes against the definition by bytes.
use Rattle.std.specs.Prelude.{◌≡◌, refl, List, [], ◌∷◌, ◌++◌, ℕ, zero, suc, ◌+◌, ◌*◌, ◌/◌, ◌%◌, ◌^◌, ◌≤◌, ◌<◌, length, get_or, set, take, drop}
use Rattle.std.proofs.Common.{sym, ap, ap₂, ◌∙◌, add-zero, zero-mul, mul_assoc, arith, pow-add, length-drop, length-take, get_or-drop, take-add, drop-drop, length-take-le, lt-ltb, le-ltb}
use Rattle.std.specs.Int.Bits.{bit_xor, xor_zero_r, xor_shifted}
use Rattle.std.proofs.lemmas.Nat.{xor_comm}
use Rattle.std.proofs.lemmas.List.{set-get_or}
use Rattle.fips202.specs.Bytes.{xor_byte, xor_bytes}
use Rattle.fips202.specs.Laws.Xor.{xor_assoc, xor_scale}
use Rattle.fips202.specs.Laws.Bytes.{upd_upd, xor_bytes-append}
use Rattle.encode.specs.Digits.{number_of}
use Rattle.lanes_in.specs.Words.{word_at}

-- ---- reading

number_of-append : (xs ys : List ℕ) → number_of 256 (xs ++ ys) ≡ number_of 256 xs + 2 ^ (8 * length xs) * number_of 256 ys
number_of-append [] ys = omega arith
number_of-append (x ∷ xs) ys =
    let e : 8 * suc (length xs) ≡ 8 + 8 * length xs = omega arith in
    let m : 2 ^ (8 * suc (length xs)) * number_of 256 ys ≡ 256 * (2 ^ (8 * length xs) * number_of 256 ys)
    = ap (λ (k : ℕ). 2 ^ k * number_of 256 ys) e ∙ ap (λ (k : ℕ). k * number_of 256 ys) (pow-add 2 8 (8 * length xs))
    ∙ mul_assoc 256 (2 ^ (8 * length xs)) (number_of 256 ys) in
    omega (arith, number_of-append xs ys, m)

pub number_of-one : (at : ℕ) (s : List ℕ) → number_of 256 (take 1 (drop at s)) ≡ get_or s at 0
number_of-one zero [] = refl
number_of-one (suc at) [] = refl
number_of-one zero (x ∷ s) = omega arith
number_of-one (suc at) (x ∷ s) = number_of-one at s

one_taken : (at : ℕ) (s : List ℕ) → at < length s → take 1 (drop at s) ≡ get_or s at 0 ∷ []
one_taken at [] h = absurd (omega arith)
one_taken zero (x ∷ s) h = refl
one_taken (suc at) (x ∷ s) h = one_taken at s (omega arith)

-- n bytes, then m bytes
pub number_of-split : (n m at : ℕ) (s : List ℕ) → at + n ≤ length s
    → number_of 256 (take (n + m) (drop at s)) ≡ number_of 256 (take n (drop at s)) + 2 ^ (8 * n) * number_of 256 (take m (drop (at + n) s))
number_of-split n m at s h =
    let t : List ℕ = drop at s in
    ap (number_of 256) (take-add n m t)
    ∙ number_of-append (take n t) (take m (drop n t))
    ∙ ap₂ (λ (k : ℕ) (d : List ℕ). number_of 256 (take n t) + 2 ^ (8 * k) * number_of 256 (take m d)) (length-take-le n t (simp length-drop (omega arith)))
    (drop-drop n at s)

-- ---- a word

pub word_is : (s : List ℕ) (at : ℕ) → at + 8 ≤ length s → word_at s at ≡ number_of 256 (take 8 (drop at s))
unfolding word_at
word_is s at h = rw (le-ltb (length s) (at + 8) h)

pub no_word : (s : List ℕ) (at : ℕ) → length s < at + 8 → word_at s at ≡ 0
unfolding word_at
no_word s at h = rw (lt-ltb (length s) (at + 8) h)

-- ---- putting in

-- each element is a byte
abbrev pub EachByte : List ℕ → Type 0
EachByte l = (k : ℕ) → get_or l k 0 < 256

pub bytes_take : (n : ℕ) (l : List ℕ) → EachByte l → EachByte (take n l)
bytes_take zero l h k = omega arith
bytes_take (suc n) [] h k = omega arith
bytes_take (suc n) (x ∷ l) h zero = h 0
bytes_take (suc n) (x ∷ l) h (suc k) = bytes_take n l (λ j. h (suc j)) k

pub bytes_drop : (n : ℕ) (l : List ℕ) → EachByte l → EachByte (drop n l)
bytes_drop n l h k = rw (get_or-drop n l k 0) (h (n + k))

-- one byte below the others of a lane
number_of-shift : (b m k : ℕ) → b < 256 → bit_xor (b * 2 ^ k) (m * 2 ^ (8 + k)) ≡ (m * 256 + b) * 2 ^ k
number_of-shift b m k h =
    ap (λ (x : ℕ). bit_xor (b * 2 ^ k) (m * x)) (pow-add 2 8 k)
    ∙ ap (bit_xor (b * 2 ^ k)) (sym (mul_assoc m 256 (2 ^ k)))
    ∙ xor_scale b (m * 256) k
    ∙ ap (λ (x : ℕ). x * 2 ^ k) (xor_comm b (m * 256) ∙ xor_shifted m 8 b h ∙ omega arith)

-- bytes put into lane i from its byte j on are one exclusive or
pub xor_lane_from : (bs a : List ℕ) (i j : ℕ) → j + length bs ≤ 8 → EachByte bs
    → xor_bytes a (8 * i + j) bs ≡ set a i (bit_xor (get_or a i 0) (number_of 256 bs * 2 ^ (8 * j)))
unfolding xor_bytes xor_byte
xor_lane_from [] a i j h hb = sym (rw (zero-mul, xor_zero_r, set-get_or))
xor_lane_from (b ∷ bs) a i j h hb =
    let q : (8 * i + j) / 8 ≡ i = omega arith in
    let r : (8 * i + j) % 8 ≡ j = omega arith in
    let e : 8 * i + j + 1 ≡ 8 * i + (j + 1) = omega arith in
    let w : 8 * (j + 1) ≡ 8 + 8 * j = omega arith in
    rw (q, r, e)
    (xor_lane_from bs (set a i (bit_xor (get_or a i 0) (b * 2 ^ (8 * j)))) i (j + 1) (omega arith) (λ k. hb (suc k))
    ∙ upd_upd (λ x. bit_xor x (b * 2 ^ (8 * j))) (λ x. bit_xor x (number_of 256 bs * 2 ^ (8 * (j + 1)))) a i
    ∙ ap (set a i)
    (xor_assoc (get_or a i 0) (b * 2 ^ (8 * j)) (number_of 256 bs * 2 ^ (8 * (j + 1)))
    ∙ ap (bit_xor (get_or a i 0)) (ap (λ (x : ℕ). bit_xor (b * 2 ^ (8 * j)) (number_of 256 bs * 2 ^ x)) w
    ∙ number_of-shift b (number_of 256 bs) (8 * j) (hb 0))))

pub xor_lane_lem : (bs a : List ℕ) (i : ℕ) → length bs ≤ 8 → EachByte bs → xor_bytes a (8 * i) bs ≡ set a i (bit_xor (get_or a i 0) (number_of 256 bs))
xor_lane_lem bs a i h hb =
    let w : number_of 256 bs * 1 ≡ number_of 256 bs = omega arith in
    ap (λ (k : ℕ). xor_bytes a k bs) (sym (add-zero (8 * i))) ∙ xor_lane_from bs a i 0 (omega arith) hb ∙ ap (λ (x : ℕ). set a i (bit_xor (get_or a i 0) x)) w

-- the same at byte p, where a lane begins
pub xor_lane_at : (bs a : List ℕ) (p : ℕ) → p % 8 ≡ 0 → length bs ≤ 8 → EachByte bs
    → set a (p / 8) (bit_xor (get_or a (p / 8) 0) (number_of 256 bs)) ≡ xor_bytes a p bs
xor_lane_at bs a p z h hb =
    let e : 8 * (p / 8) ≡ p = omega arith in
    sym (xor_lane_lem bs a (p / 8) h hb) ∙ ap (λ (k : ℕ). xor_bytes a k bs) e

-- m bytes more of those that stand at `at` in s
pub more_put : (s a : List ℕ) (p at i m : ℕ) → at + i ≤ length s
    → xor_bytes (xor_bytes a p (take i (drop at s))) (p + i) (take m (drop (at + i) s)) ≡ xor_bytes a p (take (i + m) (drop at s))
more_put s a p at i m h =
    let t : List ℕ = drop at s in
    let n : length (take i t) ≡ i = length-take-le i t (simp length-drop (omega arith)) in
    sym
    (ap (xor_bytes a p) (take-add i m t)
    ∙ xor_bytes-append (take i t) (take m (drop i t)) a p
    ∙ ap₂ (λ (k : ℕ) (d : List ℕ). xor_bytes (xor_bytes a p (take i t)) (p + k) (take m d)) n (drop-drop i at s))

-- one byte of them
pub byte_put : (s a : List ℕ) (p at : ℕ) → at < length s → xor_byte a p (get_or s at 0) ≡ xor_bytes a p (take 1 (drop at s))
unfolding xor_bytes
byte_put s a p at h = sym (ap (xor_bytes a p) (one_taken at s h))

-- a lane of them, at byte p where one begins
pub lane_put : (s a : List ℕ) (p at : ℕ) → p % 8 ≡ 0 → EachByte s
    → set a (p / 8) (bit_xor (get_or a (p / 8) 0) (number_of 256 (take 8 (drop at s)))) ≡ xor_bytes a p (take 8 (drop at s))
lane_put s a p at z hb = xor_lane_at (take 8 (drop at s)) a p z (simp length-take (omega arith)) (bytes_take 8 (drop at s) (bytes_drop at s hb))
