-- Bytes of lanes as the code takes them out, against the definition by bytes: the eight of a lane, and those that follow what `out` has already.
use mathlib.Core.Path.{◌≡◌, refl, sym, ap, ◌∙◌}
use mathlib.Core.List.{List, [], ◌∷◌, ◌++◌, append_assoc, append-nil}
use Prim.Native.Nat.{ℕ, zero, suc, ◌+◌, ◌-◌, ◌*◌, ◌/◌, ◌%◌, ◌^◌, ◌≤◌, ◌<◌}
use native.Mathlib.Nat.{add-zero}
use native.Mathlib.Omega.{arith}
use lib.Pow.{pow-add}
use lib.ListN.{length, get_or, set, take, drop, length-append, length-drop}
use lib.Seq.{drop-drop, drop-cons, drop-length, set_at, take_at, drop_at, sets, sets-eq, length-take-le, get_or-take, get_or-drop}
use Rattle.std.proofs.Math.Nat.{pow-succ'}
use Rattle.std.specs.Int.{bytes_low_first, byte_at as byte_of_number}
use Rattle.fips202.specs.Bytes.{byte_at, bytes_at}
use Rattle.fips202.specs.Laws.Bytes.{bytes_at-append, length_bytes_at}

-- ---- eight bytes of a lane

power : (k : ℕ) → 256 ^ k ≡ 2 ^ (8 * k)
power zero = refl
power (suc k) =
    let e : 8 + 8 * k ≡ 8 * suc k = omega arith in
    pow-succ' 256 k ∙ ap (λ (x : ℕ). 256 * x) (power k) ∙ sym (pow-add 2 8 (8 * k)) ∙ ap (λ (j : ℕ). 2 ^ j) e

byte_is : (x j : ℕ) → x / 2 ^ (8 * j) % 256 ≡ byte_of_number j x
byte_is x zero = omega arith
byte_is x (suc j) = ap (λ (k : ℕ). x / k % 256) (sym (power (suc j)))

bytes_lane_from : (n : ℕ) (a : List ℕ) (i j : ℕ) → j + n ≤ 8 → bytes_at a (8 * i + j) n ≡ bytes_low_first j n (get_or a i 0)
unfolding bytes_at byte_at
bytes_lane_from zero a i j h = refl
bytes_lane_from (suc n) a i j h =
    let q : (8 * i + j) / 8 ≡ i = omega arith in
    let r : (8 * i + j) % 8 ≡ j = omega arith in
    let e : 8 * i + j + 1 ≡ 8 * i + suc j = omega arith in
    rw (q, r, e)
    (ap (λ (l : List ℕ). get_or a i 0 / 2 ^ (8 * j) % 256 ∷ l) (bytes_lane_from n a i (suc j) (omega arith))
    ∙ ap (λ (x : ℕ). x ∷ bytes_low_first (suc j) n (get_or a i 0)) (byte_is (get_or a i 0) j))

pub bytes_lane : (a : List ℕ) (i : ℕ) → bytes_low_first 0 8 (get_or a i 0) ≡ bytes_at a (8 * i) 8
bytes_lane a i = sym (ap (λ (k : ℕ). bytes_at a k 8) (sym (add-zero (8 * i))) ∙ bytes_lane_from 8 a i 0 (omega arith))

nth_byte : (n i k x : ℕ) → k < n → get_or (bytes_low_first i n x) k 0 ≡ byte_of_number (i + k) x
nth_byte zero i k x h = absurd (omega arith)
nth_byte (suc n) i zero x h = rw add-zero
nth_byte (suc n) i (suc k) x h =
    let e : suc i + k ≡ i + suc k = omega arith in
    rw e at (nth_byte n (suc i) k x (omega arith))

pub byte_of_eight : (x k : ℕ) → k < 8 → get_or (bytes_low_first 0 8 x) k 0 ≡ x / 2 ^ (8 * k) % 256
byte_of_eight x k h =
    let e : 0 + k ≡ k = omega arith in
    rw e at (nth_byte 8 0 k x h) ∙ sym (byte_is x k)

-- ---- after the first n bytes from byte p on: the next m

pub put_next : (out o new a : List ℕ) (p n k m : ℕ) → k ≡ m → o ≡ bytes_at a p n ++ drop n out → new ≡ bytes_at a (p + n) m
    → take n o ++ (new ++ drop k (drop n o)) ≡ bytes_at a p (n + m) ++ drop (n + m) out
put_next out o new a p n k m e h g =
    let b : List ℕ = bytes_at a p n in
    let long : length b ≡ n = length_bytes_at n a p in
    let rest : drop k (drop n o) ≡ drop (n + m) out
    = ap (λ (l : List ℕ). drop k (drop n l)) h ∙ ap (drop k) (drop_at b (drop n out) n long) ∙ drop-drop k n out ∙ ap (λ (j : ℕ). drop (n + j) out) e in
    let front : take n o ≡ b = ap (take n) h ∙ take_at b (drop n out) n long in
    (λ i. front i ++ (g i ++ rest i))
    ∙ sym (append_assoc b (bytes_at a (p + n) m) (drop (n + m) out))
    ∙ ap (λ (l : List ℕ). l ++ drop (n + m) out) (sym (bytes_at-append n m a p))

pub put_byte : (out o a : List ℕ) (p i : ℕ) → o ≡ bytes_at a p i ++ drop i out → i < length out
    → set o i (byte_at a (p + i)) ≡ bytes_at a p (i + 1) ++ drop (i + 1) out
unfolding bytes_at
put_byte out o a p i h l =
    let b : List ℕ = bytes_at a p i in
    let e : suc i ≡ i + 1 = omega arith in
    ap (λ (x : List ℕ). set x i (byte_at a (p + i))) (h ∙ ap (λ (x : List ℕ). b ++ x) (drop-cons out i 0 l))
    ∙ set_at b (get_or out i 0) (drop (suc i) out) (byte_at a (p + i)) i (length_bytes_at i a p)
    ∙ ap (λ (j : ℕ). b ++ (byte_at a (p + i) ∷ drop j out)) e
    ∙ sym (append_assoc b (byte_at a (p + i) ∷ []) (drop (i + 1) out))
    ∙ ap (λ (x : List ℕ). x ++ drop (i + 1) out) (sym (bytes_at-append i 1 a p))

pub put_all : (out o a : List ℕ) (p n : ℕ) → n ≡ length out → o ≡ bytes_at a p n ++ drop n out → o ≡ bytes_at a p (length out)
put_all out o a p n e h =
    h ∙ ap (λ (k : ℕ). bytes_at a p k ++ drop k out) e ∙ ap (λ (l : List ℕ). bytes_at a p (length out) ++ l) (drop-length out) ∙ append-nil _

-- lane i of those from lane q on
pub lane_of_part : (a : List ℕ) (q m i : ℕ) → i < m → get_or (take m (drop q a)) i 0 ≡ get_or a (q + i) 0
lane_of_part a q m i h = get_or-take m (drop q a) i 0 h ∙ get_or-drop q a i 0

pub next_lane : (new a : List ℕ) (q m i : ℕ) → i < m → new ≡ bytes_low_first 0 8 (get_or (take m (drop q a)) i 0) → new ≡ bytes_at a (8 * q + 8 * i) 8
next_lane new a q m i h e =
    let k : 8 * (q + i) ≡ 8 * q + 8 * i = omega arith in
    e ∙ ap (bytes_low_first 0 8) (lane_of_part a q m i h) ∙ bytes_lane a (q + i) ∙ ap (λ (j : ℕ). bytes_at a j 8) k

-- ---- parts of `out`

-- up to `mid`, and the rest
pub two_parts : (out first last a : List ℕ) (p mid : ℕ) → mid ≤ length out → first ≡ bytes_at a p (length (take mid out))
    → (o : List ℕ) → o ≡ first ++ drop mid out → last ≡ bytes_at a (p + mid) (length (take (length o - mid) (drop mid o)))
    → take mid o ++ (last ++ drop (length o - mid) (drop mid o)) ≡ bytes_at a p (length out)
two_parts out first last a p mid h hf o ho hl =
    let b : first ≡ bytes_at a p mid = hf ∙ ap (bytes_at a p) (length-take-le mid out h) in
    let begun : o ≡ bytes_at a p mid ++ drop mid out = ho ∙ ap (λ (x : List ℕ). x ++ drop mid out) b in
    let sum : length (bytes_at a p mid) + length (drop mid out) ≡ length out = (λ i. length_bytes_at mid a p i + length-drop mid out i) ∙ omega arith in
    let full : length o ≡ length out = ap length begun ∙ length-append (bytes_at a p mid) (drop mid out) ∙ sum in
    let left : length (take (length o - mid) (drop mid o)) ≡ length o - mid = length-take-le (length o - mid) (drop mid o) (simp length-drop (omega arith)) in
    let k : length (take (length o - mid) (drop mid o)) ≡ length out - mid = omega (arith, left, full) in
    let r : last ≡ bytes_at a (p + mid) (length out - mid) = hl ∙ ap (bytes_at a (p + mid)) k in
    let f : mid + (length out - mid) ≡ length out = omega arith in
    let all : take mid o ++ (last ++ drop (length o - mid) (drop mid o)) ≡ bytes_at a p (length out) ++ drop (length out) out
    = rw f at (put_next out o last a p mid (length o - mid) (length out - mid) (omega arith) begun r) in
    put_all out (take mid o ++ (last ++ drop (length o - mid) (drop mid o))) a p (length out) refl all

-- a part as stores one after another
pub put_sets : (out new a : List ℕ) (at p n k : ℕ) → k ≡ n → at + n ≤ length out → new ≡ bytes_at a p (length (take k (drop at out)))
    → take at out ++ (new ++ drop k (drop at out)) ≡ sets out at (bytes_at a p n)
put_sets out new a at p n k e h g =
    let long : length (take k (drop at out)) ≡ n = length-take-le k (drop at out) (simp length-drop (omega arith)) ∙ e in
    let new_is : new ≡ bytes_at a p n = g ∙ ap (bytes_at a p) long in
    let len : length (bytes_at a p n) ≡ n = length_bytes_at n a p in
    (λ i. take at out ++ (new_is i ++ drop-drop k at out i))
    ∙ ap (λ (j : ℕ). take at out ++ (bytes_at a p n ++ drop (at + j) out)) (e ∙ sym len)
    ∙ sym (append_assoc (take at out) (bytes_at a p n) (drop (at + length (bytes_at a p n)) out))
    ∙ sym (sets-eq (bytes_at a p n) out at (omega (arith, len)))
