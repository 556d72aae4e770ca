-- Combining with a key stream: the turns of the loop, and that combining twice with one stream gives the text back, whatever the stream.
use mathlib.Core.Path.{◌≡◌, refl, sym, ap, ap₂, ◌∙◌}
use mathlib.Core.List.{List, [], ◌∷◌, ◌++◌, append_assoc, append-nil}
use Prim.Native.Nat.{ℕ, zero, suc, ◌+◌, ◌*◌, ◌/◌, ◌%◌, ◌≤◌, ◌<◌, min}
use native.Mathlib.Decide.{dec_le}
use native.Mathlib.Numerals.{add-one}
use native.Mathlib.Omega.{arith}
use lib.Arith.{bin_ind}
use lib.Bits.{bit_xor, differ, xor_step, xor_shr, xor_mod, xor_self, xor_zero_l}
use lib.ListN.{length, get_or, set, take, drop, drop_of_length-le, take-append-drop}
use lib.Seq.{take-suc-set, drop-set-lt, drop-cons, take_all}
use Rattle.byte_strings.specs.Combined.{combined}

-- what is done, and what is left to do, is all of it
abbrev pub Left : List ℕ → List ℕ → ℕ → List ℕ → Type 0
Left text out i all = take i out ++ combined (drop i text) (drop i out) ≡ all

pub one_more : (text out all : List ℕ) (i v : ℕ) → i < length text → i < length out → v ≡ bit_xor (get_or text i 0) (get_or out i 0)
    → Left text out i all → Left text (set out i v) (i + 1) all
unfolding combined
one_more text out all i v ht ho is e =
    let n : i < suc i = omega arith in
    ap (λ (k : ℕ). take k (set out i v) ++ combined (drop k text) (drop k (set out i v))) (add-one i)
    ∙ ap₂ (λ (x y : List ℕ). x ++ combined (drop (suc i) text) y) (take-suc-set out i v ho) (drop-set-lt (suc i) out i v n)
    ∙ append_assoc (take i out) (v ∷ []) (combined (drop (suc i) text) (drop (suc i) out))
    ∙ ap (λ (k : ℕ). take i out ++ (k ∷ combined (drop (suc i) text) (drop (suc i) out))) is
    ∙ sym (ap₂ (λ (x y : List ℕ). take i out ++ combined x y) (drop-cons text i 0 ht) (drop-cons out i 0 ho))
    ∙ e

-- nothing is left where the text ends, or the stream
combined_none : (text : List ℕ) → combined text [] ≡ []
unfolding combined
combined_none [] = refl
combined_none (x ∷ text) = refl

pub no_more : (text out all : List ℕ) (i : ℕ) → min (length text) (length out) ≤ i → Left text out i all → out ≡ all
unfolding combined
no_more text out all i h e = elim (dec_le (length text) i) [
  | yes k ↦ sym (ap (λ (l : List ℕ). take i out ++ combined l (drop i out)) (drop_of_length-le text k) ∙ take-append-drop i out) ∙ e
  | no k ↦
      let short : length out ≤ i = omega arith in
      sym
      (ap₂ (λ (l m : List ℕ). l ++ combined (drop i text) m) (take_all i out short) (drop_of_length-le out short)
      ∙ ap (λ (l : List ℕ). out ++ l) (combined_none (drop i text))
      ∙ append-nil out)
      ∙ e
]

pub length_combined : (text stream : List ℕ) → length (combined text stream) ≡ length stream
unfolding combined
length_combined [] stream = refl
length_combined (x ∷ text) [] = refl
length_combined (x ∷ text) (k ∷ stream) = ap suc (length_combined text stream)

-- ---- twice

bit_twice : (x w : ℕ) → x < 2 → w < 2 → differ (bit_xor x w) w ≡ x
bit_twice zero zero hx hw = refl
bit_twice zero (suc zero) hx hw = refl
bit_twice (suc zero) zero hx hw = refl
bit_twice (suc zero) (suc zero) hx hw = refl
bit_twice zero (suc (suc w)) hx hw = absurd (omega arith)
bit_twice (suc zero) (suc (suc w)) hx hw = absurd (omega arith)
bit_twice (suc (suc x)) w hx hw = absurd (omega arith)

xor_twice : (x w : ℕ) → bit_xor (bit_xor x w) w ≡ x
xor_twice x =
    bin_ind (λ (n : ℕ). (w : ℕ) → bit_xor (bit_xor n w) w ≡ n)
    (λ w. ap (λ (y : ℕ). bit_xor y w) (xor_zero_l w) ∙ xor_self w)
    (λ n ih w.
    xor_step (bit_xor n w) w
    ∙ ap₂ (λ (y z : ℕ). y * 2 + z)
    (ap (λ (y : ℕ). bit_xor y (w / 2)) (xor_shr n w 1) ∙ ih (w / 2))
    (ap (λ (y : ℕ). differ y (w % 2)) (xor_mod n w 1) ∙ bit_twice (n % 2) (w % 2) (omega arith) (omega arith))
    ∙ omega arith)
    x

-- whatever the stream
pub combined_twice : (text stream : List ℕ) → length text ≡ length stream → combined (combined text stream) stream ≡ text
unfolding combined
combined_twice [] [] h = refl
combined_twice [] (k ∷ stream) h = absurd (omega arith)
combined_twice (x ∷ text) [] h = absurd (omega arith)
combined_twice (x ∷ text) (k ∷ stream) h =
    let n : length text ≡ length stream = omega arith in
    ap₂ {C = List ℕ} (λ (y : ℕ) (l : List ℕ). y ∷ l) (xor_twice x k) (combined_twice text stream n)
