-- Comparing over the whole length: the differences of all bytes, joined by or, are 0 exactly where no byte differs.
use Rattle.std.specs.Prelude.{fold}
use Rattle.std.specs.Int.Bits.{bit_or, bit_xor}
use Rattle.std.specs.List.{zip}
use Rattle.std.proofs.Common.{◌≡◌, refl, ap, ◌∙◌, arith, List, [], ◌∷◌, ℕ, ◌≤◌, ◌<◌, length, take, take_all}
use borrow.Author.Tests.{eqb-true, eq-eqb, leb-true}
use lib.Bits.{or_add_and, xor_add_and, and_le_l, and_le_r, xor_self}
use lib.Dec.{eqb, leb}
use Rattle.calls.specs.Start.{same_bytes}
use Rattle.calls.specs.Laws.Refusal.{same_bytes-is}
use Rattle.byte_strings.specs.Combined.{differences}

or_none : (a b : ℕ) → bit_or a b ≡ 0 → (a ≡ 0) × (b ≡ 0)
or_none a b e =
    let s = or_add_and a b in
    let l = and_le_l a b in
    let r = and_le_r a b in
    (omega arith, omega arith)

xor_none : (a b : ℕ) → bit_xor a b ≡ 0 → a ≡ b
xor_none a b e = omega (arith, xor_add_and a b, and_le_l a b, and_le_r a b)

-- the differences joined with what was joined before
abbrev joined_to : ℕ → List ℕ → List ℕ → ℕ
joined_to d a b = fold (λ joined p. bit_or joined (bit_xor p.0 p.1)) d (zip a b)

none_differs : (d : ℕ) (a b : List ℕ) → length a ≤ length b → joined_to d a b ≡ 0 → (d ≡ 0) × (a ≡ take (length a) b)
none_differs d [] b h e = (e, refl)
none_differs d (x ∷ a) [] h e = absurd (omega arith)
none_differs d (x ∷ a) (y ∷ b) h e =
    let shorter : length a ≤ length b = omega arith in
    let rest = none_differs (bit_or d (bit_xor x y)) a b shorter e in
    let here = or_none d (bit_xor x y) rest.0 in
    let byte : x ≡ y = xor_none x y here.1 in
    let bytes : a ≡ take (length a) b = rest.1 in
    (here.0, cc)

all_same : (a b : List ℕ) → length a ≤ length b → a ≡ take (length a) b → joined_to 0 a b ≡ 0
all_same [] b h e = refl
all_same (x ∷ a) [] h e = absurd (omega arith)
all_same (x ∷ a) (y ∷ b) h e =
    let shorter : length a ≤ length b = omega arith in
    let byte : x ≡ y = cc in
    let bytes : a ≡ take (length a) b = cc in
    let none : bit_or 0 (bit_xor x y) ≡ 0 = ap (λ k. bit_or 0 (bit_xor k y)) byte ∙ ap (bit_or 0) (xor_self y) in
    ap (λ d. joined_to d a b) none ∙ all_same a b shorter bytes

-- the verdict, where there are as many bytes as the tag has
pub compared_all : (a b : List ℕ) → length a ≤ length b → eqb (differences a b) 0 ≡ same_bytes a (take (length a) b)
compared_all a b h =
    same_bytes-is (eqb (differences a b) 0) a (take (length a) b)
    ((λ t. (none_differs 0 a b h (eqb-true (differences a b) 0 t)).1), (λ s. eq-eqb (differences a b) 0 (all_same a b h s)))

-- and where there are fewer
pub compared_short : (a b : List ℕ) → length b < length a → leb (length a) (length b) ≡ same_bytes a (take (length a) b)
compared_short a b h =
    let all : take (length a) b ≡ b = take_all (length a) b (omega arith) in
    same_bytes-is (leb (length a) (length b)) a (take (length a) b)
    ((λ t. absurd (omega (arith, leb-true (length a) (length b) t))), (λ s. absurd (omega (arith, ap length (s ∙ all)))))
