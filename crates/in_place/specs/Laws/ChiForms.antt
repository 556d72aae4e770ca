-- χ at a lane, p ^ (!q & r), where some of the three are held inverted, and where the result is: the forms that the code has.
-- A name says which of p, q, r and of the result are inverted.
use Rattle.std.specs.Prelude.{◌≡◌, List, ℕ, ◌-◌, ◌^◌, ◌<◌, get_or}
use Rattle.std.proofs.Common.{sym, ap, ◌∙◌, lit<}
use Rattle.std.specs.Int.Bits.{bit_xor, bit_and, bit_or, xor_self, xor_zero_r}
use Rattle.std.proofs.lemmas.Nat.{xor_comm, xor_lt}
use Rattle.in_place.specs.Complemented.{ones}
use Rattle.fips202.specs.Laws.Xor.{xor_assoc, xor_swap, interchange, twice, complement, nor}
use Rattle.fips202.specs.Laws.Lanes.{Bounded}

-- inverting twice, across an exclusive or
cancel : (x y w : ℕ) → bit_xor (bit_xor x w) (bit_xor y w) ≡ bit_xor x y
cancel x y w = interchange x w y w ∙ ap (bit_xor (bit_xor x y)) (xor_self w) ∙ xor_zero_r (bit_xor x y)

right : (x y w : ℕ) → bit_xor (bit_xor x (bit_xor y w)) w ≡ bit_xor x y
right x y w = xor_assoc x (bit_xor y w) w ∙ ap (bit_xor x) (twice y w)

left : (x y w : ℕ) → bit_xor (bit_xor (bit_xor x w) y) w ≡ bit_xor x y
left x y w = xor_swap (bit_xor x w) y w ∙ ap (λ (v : ℕ). bit_xor v y) (twice x w)

over : (x y w : ℕ) → bit_xor (bit_xor x w) y ≡ bit_xor x (bit_xor y w)
over x y w = xor_assoc x w y ∙ ap (bit_xor x) (xor_comm w y)

inverted_lt : (x : ℕ) → x < 2 ^ 64 → bit_xor x ones < 2 ^ 64
inverted_lt x h = xor_lt 64 x ones h (lit< tt)

-- p, q and r are the lanes i, j and k
module _ (b : List ℕ) (h : Bounded b) (i j k : ℕ) where
  abbrev p : ℕ
  p = get_or b i 0

  abbrev q : ℕ
  q = get_or b j 0

  abbrev r : ℕ
  r = get_or b k 0

  back : 2 ^ 64 - 1 - bit_xor q ones ≡ q
  back = complement (bit_xor q ones) (inverted_lt q (h j)) ∙ twice q ones

  pub pr : bit_xor p (bit_or q r) ≡ bit_xor (bit_xor p ones) (bit_and (2 ^ 64 - 1 - q) (bit_xor r ones))
  pr = sym (ap (bit_xor (bit_xor p ones)) (nor q r (h j) (h k)) ∙ cancel p (bit_or q r) ones)

  pub ro : bit_xor p (bit_or q r) ≡ bit_xor (bit_xor p (bit_and (2 ^ 64 - 1 - q) (bit_xor r ones))) ones
  ro = sym (ap (λ (v : ℕ). bit_xor (bit_xor p v) ones) (nor q r (h j) (h k)) ∙ right p (bit_or q r) ones)

  pub r_only : bit_xor p (bit_xor (bit_or q r) ones) ≡ bit_xor p (bit_and (2 ^ 64 - 1 - q) (bit_xor r ones))
  r_only = ap (bit_xor p) (sym (nor q r (h j) (h k)))

  pub p_only : bit_xor p (bit_or q (bit_xor r ones)) ≡ bit_xor (bit_xor p ones) (bit_and (2 ^ 64 - 1 - q) r)
  p_only =
      sym
      (ap (λ (v : ℕ). bit_xor (bit_xor p ones) (bit_and (2 ^ 64 - 1 - q) v)) (sym (twice r ones))
      ∙ ap (bit_xor (bit_xor p ones)) (nor q (bit_xor r ones) (h j) (inverted_lt r (h k)))
      ∙ cancel p (bit_or q (bit_xor r ones)) ones)

  pub qro : bit_xor p (bit_or (bit_xor q ones) r) ≡ bit_xor (bit_xor p (bit_and (2 ^ 64 - 1 - bit_xor q ones) (bit_xor r ones))) ones
  qro =
      sym
      (ap (λ (v : ℕ). bit_xor (bit_xor p v) ones) (nor (bit_xor q ones) r (inverted_lt q (h j)) (h k))
      ∙ right p (bit_or (bit_xor q ones) r) ones)

  pub q_only : bit_xor p (bit_and q r) ≡ bit_xor p (bit_and (2 ^ 64 - 1 - bit_xor q ones) r)
  q_only = ap (λ (v : ℕ). bit_xor p (bit_and v r)) (sym back)

  pub pqo : bit_xor p (bit_and q r) ≡ bit_xor (bit_xor (bit_xor p ones) (bit_and (2 ^ 64 - 1 - bit_xor q ones) r)) ones
  pqo = sym (ap (λ (v : ℕ). bit_xor (bit_xor (bit_xor p ones) (bit_and v r)) ones) back ∙ left p (bit_and q r) ones)

  pub pq : bit_xor p (bit_xor (bit_and q r) ones) ≡ bit_xor (bit_xor p ones) (bit_and (2 ^ 64 - 1 - bit_xor q ones) r)
  pq = sym (ap (λ (v : ℕ). bit_xor (bit_xor p ones) (bit_and v r)) back ∙ over p (bit_and q r) ones)

  pub po : bit_xor p (bit_and (bit_xor q ones) r) ≡ bit_xor (bit_xor (bit_xor p ones) (bit_and (2 ^ 64 - 1 - q) r)) ones
  po =
      sym
      (ap (λ (v : ℕ). bit_xor (bit_xor (bit_xor p ones) (bit_and v r)) ones) (complement q (h j))
      ∙ left p (bit_and (bit_xor q ones) r) ones)
