-- A lane put in by code, against the definition by bytes: a number, pieces from a place on, and the first and the last of eight bytes.
use mathlib.Core.Path.{◌≡◌, refl, sym, ap, ◌∙◌}
use mathlib.Core.List.{List, [], ◌∷◌}
use Prim.Native.Nat.{ℕ, zero, suc, ◌+◌, ◌-◌, ◌*◌, ◌/◌, ◌%◌, ◌^◌, ◌≤◌, ◌<◌}
use native.Mathlib.Nat.{add_comm, add-mul, mul_assoc, mul_comm}
use native.Mathlib.Omega.{arith}
use lib.Pow.{pow-add, shl_lt, low, high}
use lib.Bits.{bit_xor}
use lib.ListN.{length, get_or, set, take, drop, length-drop, length-take}
use lib.Seq.{length-take-le, drop-drop}
use Rattle.std.proofs.lemmas.List.{take_rest, take_all}
use Rattle.std.specs.Int.{w64, from_le_bytes}
use Rattle.std.specs.Simd.{first_chunks}
use Rattle.fips202.specs.Bytes.{xor_byte, xor_bytes}
use Rattle.encode.specs.Digits.{digits, number_of}
use Rattle.encode.specs.Laws.Digits.{number_of-digits}
use Rattle.encode.proofs.Laws.Bytes.{get_d_bytes, digits_bytes}
use Rattle.lanes_in.specs.Laws.Lanes.{EachByte, number_of-split, bytes_take, bytes_drop, xor_lane_from, xor_lane_lem, xor_lane_at}
use Rattle.lanes_in.specs.Laws.Lanes.{more_put, byte_put, lane_put}

-- what `from_le_bytes` makes of eight bytes
pub le_number : (l : List ℕ) → length l ≡ 8 → from_le_bytes w64 l ≡ number_of 256 l
le_number [] e = absurd (omega arith)
le_number (a ∷ []) e = absurd (omega arith)
le_number (a ∷ b ∷ []) e = absurd (omega arith)
le_number (a ∷ b ∷ c ∷ []) e = absurd (omega arith)
le_number (a ∷ b ∷ c ∷ d ∷ []) e = absurd (omega arith)
le_number (a ∷ b ∷ c ∷ d ∷ f ∷ []) e = absurd (omega arith)
le_number (a ∷ b ∷ c ∷ d ∷ f ∷ g ∷ []) e = absurd (omega arith)
le_number (a ∷ b ∷ c ∷ d ∷ f ∷ g ∷ h ∷ []) e = absurd (omega arith)
le_number (a ∷ b ∷ c ∷ d ∷ f ∷ g ∷ h ∷ i ∷ []) e = omega arith
le_number (a ∷ b ∷ c ∷ d ∷ f ∷ g ∷ h ∷ i ∷ j ∷ l) e = absurd (omega arith)

-- of the eight that stand at `at`
pub le_at : (s l : List ℕ) (at : ℕ) → at + 8 ≤ length s → l ≡ take 8 (drop at s) → from_le_bytes w64 l ≡ number_of 256 (take 8 (drop at s))
le_at s l at h e = le_number l (ap length e ∙ length-take-le 8 (drop at s) (simp length-drop (omega arith))) ∙ ap (number_of 256) e

-- the next byte of a piece
pub next_byte : (s a : List ℕ) (p i : ℕ) → i < length s → xor_byte (xor_bytes a p (take i s)) (p + i) (get_or s i 0) ≡ xor_bytes a p (take (i + 1) s)
next_byte s a p i h =
    let e : 0 + i ≡ i = omega arith in
    byte_put s (xor_bytes a p (take i s)) (p + i) i h ∙ rw e at (more_put s a p 0 i 1 (omega arith))

-- the next lane of a piece, whose bytes from `from` on fill lanes from `next` on
pub next_lane : (s a : List ℕ) (p from next i : ℕ) → 8 * next ≡ p + from → from + 8 * i + 8 ≤ length s → EachByte s
    → set (xor_bytes a p (take (from + 8 * i) s)) (next + i)
    (bit_xor (get_or (xor_bytes a p (take (from + 8 * i) s)) (next + i) 0) (number_of 256 (take 8 (drop (from + 8 * i) s))))
    ≡ xor_bytes a p (take (from + 8 * (i + 1)) s)
next_lane s a p from next i e h hb =
    let x : List ℕ = xor_bytes a p (take (from + 8 * i) s) in
    let q : (p + (from + 8 * i)) / 8 ≡ next + i = omega arith in
    let z : 0 + (from + 8 * i) ≡ from + 8 * i = omega arith in
    let n : from + 8 * i + 8 ≡ from + 8 * (i + 1) = omega arith in
    rw q at (lane_put s x (p + (from + 8 * i)) (from + 8 * i) (omega arith) hb) ∙ rw (z, n) at (more_put s a p 0 (from + 8 * i) 8 (omega arith))

pub chunk_at : (k i : ℕ) (s : List ℕ) (d : List ℕ) → i < k → get_or (first_chunks 8 k s) i d ≡ take 8 (drop (8 * i) s)
chunk_at zero i s d h = absurd (omega arith)
chunk_at (suc k) zero s d h = refl
chunk_at (suc k) (suc i) s d h =
    let e : 8 * suc i ≡ 8 + 8 * i = omega arith in
    chunk_at k i (drop 8 s) d (omega arith) ∙ ap (take 8) (drop-drop (8 * i) 8 s ∙ ap (λ (j : ℕ). drop j s) (sym e))

-- a number's own eight
pub word_put : (a : List ℕ) (i w : ℕ) → w < 2 ^ 64 → set a i (bit_xor (get_or a i 0) w) ≡ xor_bytes a (8 * i) (digits 256 8 w)
word_put a i w h =
    ap (λ (x : ℕ). set a i (bit_xor (get_or a i 0) x)) (sym (number_of-digits 256 (omega arith) 8 w h))
    ∙ sym (xor_lane_lem (digits 256 8 w) a i (omega arith) (λ k. get_d_bytes (digits 256 8 w) k (digits_bytes 8 w)))

-- ---- the first of eight bytes, and the last

-- bytes are a number of as many digits
number_of-small : (bs : List ℕ) → EachByte bs → number_of 256 bs < 2 ^ (8 * length bs)
number_of-small [] h = omega arith
number_of-small (b ∷ bs) h =
    let e : 8 * suc (length bs) ≡ 8 + 8 * length bs = omega arith in
    let m : 2 ^ (8 * suc (length bs)) ≡ 256 * 2 ^ (8 * length bs) = ap (λ (k : ℕ). 2 ^ k) e ∙ pow-add 2 8 (8 * length bs) in
    omega (arith, number_of-small bs (λ k. h (suc k)), h 0, m)

-- m bytes and n more, eight together, from `at` on
module _ (s : List ℕ) (at m n : ℕ) (eight : m + n ≡ 8) (room : at + 8 ≤ length s) (hb : EachByte s) where
  first_small : number_of 256 (take m (drop at s)) < 2 ^ (8 * m)
  first_small =
      let k : length (take m (drop at s)) ≡ m = length-take-le m (drop at s) (simp length-drop (omega arith)) in
      rw k at (number_of-small (take m (drop at s)) (bytes_take m (drop at s) (bytes_drop at s hb)))

  last_above : number_of 256 (take 8 (drop at s)) ≡ number_of 256 (take n (drop (at + m) s)) * 2 ^ (8 * m) + number_of 256 (take m (drop at s))
  last_above =
      let e = rw eight at (number_of-split m n at s (omega arith)) in
      e ∙ add_comm _ _ ∙ ap (λ (k : ℕ). k + number_of 256 (take m (drop at s))) (mul_comm (2 ^ (8 * m)) _)

  -- up by n bytes, the m are left
  first_kept : number_of 256 (take 8 (drop at s)) * 2 ^ (8 * n) % 2 ^ 64 ≡ number_of 256 (take m (drop at s)) * 2 ^ (8 * n)
  first_kept =
      let lo : ℕ = number_of 256 (take m (drop at s)) in
      let hi : ℕ = number_of 256 (take n (drop (at + m) s)) in
      let w : 8 * m + 8 * n ≡ 64 = omega arith in
      let fits : lo * 2 ^ (8 * n) < 2 ^ 64 = rw w at (shl_lt (8 * m) (8 * n) first_small) in
      let top : hi * 2 ^ (8 * m) * 2 ^ (8 * n) ≡ hi * 2 ^ 64
      = mul_assoc hi (2 ^ (8 * m)) (2 ^ (8 * n)) ∙ ap (λ (x : ℕ). hi * x) (sym (pow-add 2 (8 * m) (8 * n)) ∙ ap (λ (k : ℕ). 2 ^ k) w) in
      ap (λ (x : ℕ). x * 2 ^ (8 * n) % 2 ^ 64) last_above
      ∙ ap (λ (x : ℕ). x % 2 ^ 64) (add-mul (hi * 2 ^ (8 * m)) lo (2 ^ (8 * n)) ∙ ap (λ (x : ℕ). x + lo * 2 ^ (8 * n)) top)
      ∙ low hi 64 fits

  -- down by m bytes, the n
  last_kept : number_of 256 (take 8 (drop at s)) / 2 ^ (8 * m) ≡ number_of 256 (take n (drop (at + m) s))
  last_kept = ap (λ (x : ℕ). x / 2 ^ (8 * m)) last_above ∙ high (number_of 256 (take n (drop (at + m) s))) (8 * m) first_small

-- put in at byte p: as many as its lane has from there
pub first_put : (s a : List ℕ) (p at : ℕ) → at + 8 ≤ length s → EachByte s
    → set a (p / 8) (bit_xor (get_or a (p / 8) 0) (number_of 256 (take 8 (drop at s)) * 2 ^ (8 * (p % 8)) % 2 ^ 64))
    ≡ xor_bytes a p (take (8 - p % 8) (drop at s))
first_put s a p at h hb =
    let bs : List ℕ = take (8 - p % 8) (drop at s) in
    let e : 8 * (p / 8) + p % 8 ≡ p = omega arith in
    ap (λ (x : ℕ). set a (p / 8) (bit_xor (get_or a (p / 8) 0) x)) (first_kept s at (8 - p % 8) (p % 8) (omega arith) h hb)
    ∙ sym (xor_lane_from bs a (p / 8) (p % 8) (simp length-take (omega arith)) (bytes_take (8 - p % 8) (drop at s) (bytes_drop at s hb)))
    ∙ ap (λ (k : ℕ). xor_bytes a k bs) e

-- the n before `end`, at byte p where a lane begins
pub last_put : (s a : List ℕ) (p end n : ℕ) → p % 8 ≡ 0 → n ≤ 8 → 8 ≤ end → end ≤ length s → EachByte s
    → set a (p / 8) (bit_xor (get_or a (p / 8) 0) (number_of 256 (take 8 (drop (end - 8) s)) / 2 ^ (64 - 8 * n))) ≡ xor_bytes a p (take n (drop (end - n) s))
last_put s a p end n z h k l hb =
    let e : 64 - 8 * n ≡ 8 * (8 - n) = omega arith in
    let f : end - 8 + (8 - n) ≡ end - n = omega arith in
    let bs : List ℕ = take n (drop (end - n) s) in
    ap (λ (x : ℕ). set a (p / 8) (bit_xor (get_or a (p / 8) 0) x))
    (ap (λ (x : ℕ). number_of 256 (take 8 (drop (end - 8) s)) / 2 ^ x) e
    ∙ last_kept s (end - 8) (8 - n) n (omega arith) (omega arith) hb
    ∙ ap (λ (x : ℕ). number_of 256 (take n (drop x s))) f)
    ∙ xor_lane_at bs a p z (simp length-take (omega arith)) (bytes_take n (drop (end - n) s) (bytes_drop (end - n) s hb))

-- ---- the lanes of a piece

pub length_left : (s : List ℕ) (from : ℕ) → length (take (length s - from) (drop from s)) ≡ length s - from
length_left s from = ap length (take_rest s from) ∙ length-drop from s

-- lane i of those that `as_chunks` makes of the bytes from `from` on
pub lane_at : (s l d : List ℕ) (ws : List (List ℕ)) (from i : ℕ)
    → ws ≡ first_chunks 8 (length (take (length s - from) (drop from s)) / 8) (take (length s - from) (drop from s)) → i < length ws
    → length ws ≡ length (take (length s - from) (drop from s)) / 8 → from ≤ length s → l ≡ get_or ws i d
    → from_le_bytes w64 l ≡ number_of 256 (take 8 (drop (from + 8 * i) s))
lane_at s l d ws from i e h n f g =
    let r : List ℕ = take (length s - from) (drop from s) in
    let all : r ≡ drop from s = take_rest s from in
    let k : length r ≡ length s - from = length_left s from in
    let item : l ≡ take 8 (drop (from + 8 * i) s)
    = g ∙ ap (λ (x : List (List ℕ)). get_or x i d) e ∙ chunk_at (length r / 8) i r d (omega arith)
    ∙ ap (λ (x : List ℕ). take 8 (drop (8 * i) x)) all ∙ ap (take 8) (drop-drop (8 * i) from s) in
    le_at s l (from + 8 * i) (omega arith) item

-- what is left after whole lanes, of the last eight bytes
pub last_lane : (s a l : List ℕ) (p from next m n : ℕ) → 8 * next ≡ p + from → from + 8 * m + n ≡ length s → n ≤ 8 → 8 ≤ length s → EachByte s
    → l ≡ drop (length s - 8) s
    → set (xor_bytes a p (take (from + 8 * m) s)) (next + m)
    (bit_xor (get_or (xor_bytes a p (take (from + 8 * m) s)) (next + m) 0) (from_le_bytes w64 l / 2 ^ (64 - 8 * n)))
    ≡ xor_bytes a p s
last_lane s a l p from next m n e f k h hb g =
    let x : List ℕ = xor_bytes a p (take (from + 8 * m) s) in
    let eight : length (drop (length s - 8) s) ≡ 8 = simp length-drop (omega arith) in
    let number : from_le_bytes w64 l ≡ number_of 256 (take 8 (drop (length s - 8) s))
    = le_number l (ap length g ∙ eight) ∙ ap (number_of 256) (g ∙ sym (take_all 8 (drop (length s - 8) s) (omega arith))) in
    let q : (p + (from + 8 * m)) / 8 ≡ next + m = omega arith in
    let z : 0 + (from + 8 * m) ≡ from + 8 * m = omega arith in
    let there : length s - n ≡ from + 8 * m = omega arith in
    let all : take (from + 8 * m + n) s ≡ s = take_all (from + 8 * m + n) s (omega arith) in
    let put : xor_bytes x (p + (from + 8 * m)) (take n (drop (from + 8 * m) s)) ≡ xor_bytes a p s
    = rw z at (more_put s a p 0 (from + 8 * m) n (omega arith)) ∙ ap (xor_bytes a p) all in
    rw number (rw (q, there) at (last_put s x (p + (from + 8 * m)) (length s) n (omega arith) k h (omega arith) hb) ∙ put)
