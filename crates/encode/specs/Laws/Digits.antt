-- Laws on digits: a width's digits hold the number, and no fewer do. Shown once, over the base and the width.
use Rattle.std.specs.Prelude.{◌≡◌, ◌↔◌, Bool, length}
use Rattle.std.proofs.Math.Path.{refl}
use Rattle.std.proofs.Common.{ap, ◌∙◌, div-lt_iff_lt-mul, div-add-mod', pow-suc, one-mul, le_antisymm, ltb-true, ltb-false}
use Rattle.std.proofs.Math.Bool.{true, false}
use Prim.Native.Nat.{ℕ, zero, suc, ◌/◌, ◌^◌, ◌≤◌, ◌<◌}
use Rattle.std.proofs.Math.Nat.{pow-zero, div-lt_self}
use native.Mathlib.Omega.{arith}
use Rattle.std.proofs.Math.Dec.{ltb}
use Rattle.encode.specs.Digits.{digits, number_of, width_in, width}

pub length_digits : (b k n : ℕ) → length (digits b k n) ≡ k
length_digits b zero n = refl
length_digits b (suc k) n = ap suc (length_digits b k (n / b))

pow_one : (b : ℕ) → b ^ 1 ≡ b
pow_one b = pow-suc b 0 ∙ simp (pow-zero, one-mul)

module _ (b : ℕ) (base : 2 ≤ b) where
  -- one digit more
  up : (k n : ℕ) → (n / b < b ^ k) ↔ (n < b ^ suc k)
  up k n = rw pow-suc (div-lt_iff_lt-mul {k = b} {x = n} {y = b ^ k} (omega arith))

  -- k digits hold every number below b ^ k
  pub number_of-digits : (k n : ℕ) → n < b ^ k → number_of b (digits b k n) ≡ n
  number_of-digits zero n h = let z : n < 1 = rw (pow-zero b) at h in omega arith
  number_of-digits (suc k) n h = rw (number_of-digits k (n / b) ((up k n).1 h)) (div-add-mod' n b)

  -- a number's width is 1, or one more than its upper digits' width
  step : (P : ℕ → Type 0) (f n : ℕ) → (n < b → P 1) → (b ≤ n → P (suc (width_in b f (n / b)))) → P (width_in b (suc f) n)
  unfolding width_in
  step P f n one more = go (ltb n b) refl
    where
      go : (t : Bool) → ltb n b ≡ t → P (elim t as (λ _. ℕ) [ true ↦ 1 | false ↦ suc (width_in b f (n / b)) ])
      go true e = one (ltb-true n b e)
      go false e = more (ltb-false n b e)

  -- the width holds the number, and no lesser number of digits but 0 does
  pub width_holds : (f n : ℕ) → n ≤ f → n < b ^ width_in b f n
  unfolding width_in
  width_holds zero n h = rw pow_one (omega arith)
  width_holds (suc f) n h =
      step (λ w. n < b ^ w) f n (λ p. rw pow_one p)
      (λ big.
      let less : n / b < n = div-lt_self (omega arith) base in
      (up (width_in b f (n / b)) n).0 (width_holds f (n / b) (omega arith)))

  fewest : (f n k : ℕ) → n < b ^ suc k → width_in b f n ≤ suc k
  unfolding width_in
  fewest zero n k h = omega arith
  fewest (suc f) n zero h =
      let small : n < b = rw pow_one at h in
      step (λ w. w ≤ 1) f n (λ p. omega arith) (λ big. omega arith)
  fewest (suc f) n (suc k) h =
      step (λ w. w ≤ suc (suc k)) f n (λ p. omega arith) (λ big. omega (arith, fewest f (n / b) k ((up (suc k) n).1 h)))

  -- so the width's digits are the number's own
  pub number_of-width : (n : ℕ) → number_of b (digits b (width b n) n) ≡ n
  number_of-width n = number_of-digits (width b n) n (width_holds n n (omega arith))

  pub width_pos : (f n : ℕ) → 0 < width_in b f n
  unfolding width_in
  width_pos zero n = omega arith
  width_pos (suc f) n = step (λ w. 0 < w) f n (λ p. omega arith) (λ big. omega arith)

  pub width_fewest : (f n k : ℕ) → 0 < k → n < b ^ k → width_in b f n ≤ k
  width_fewest f n zero p h = omega arith
  width_fewest f n (suc k) p h = fewest f n k h

  -- any number of steps that is enough gives the same width
  enough : (f g n : ℕ) → n ≤ f → n ≤ g → width_in b f n ≡ width_in b g n
  enough f g n hf hg =
      le_antisymm (width_fewest f n (width_in b g n) (width_pos g n) (width_holds g n hg))
      (width_fewest g n (width_in b f n) (width_pos f n) (width_holds f n hf))

  -- the width as code finds it
  pub width_small : (n : ℕ) → n < b → width b n ≡ 1
  width_small n h = le_antisymm (fewest n n 0 (rw pow_one h)) (width_pos n n)

  pub width_big : (n : ℕ) → b ≤ n → width b n ≡ suc (width b (n / b))
  width_big zero h = omega arith
  width_big (suc f) h =
      step (λ w. w ≡ suc (width b (suc f / b))) f (suc f) (λ p. omega arith)
      (λ big.
      let less : suc f / b < suc f = div-lt_self (omega arith) base in
      ap suc (enough f (suc f / b) (suc f / b) (omega arith) (omega arith)))
