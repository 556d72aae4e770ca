-- The state with six lanes inverted: a round on what is held is the round on what is meant.
use Rattle.std.specs.Prelude.{◌≡◌, refl, Bool, true, List, [], ◌∷◌, ℕ, zero, suc, ◌^◌, T, ltb, length, get_or}
use Rattle.std.proofs.Common.{sym, ap, ◌∙◌, subst, ltb→lt, lit<}
use Rattle.std.specs.Int.Bits.{bit_xor, xor_zero_r}
use Rattle.fips202.specs.Fips202.{table_from, rotl, theta, rho, pi, chi, iota}
use Rattle.in_place.specs.Complemented.{under, masked, between_rounds, before_chi, complemented, held_chi}
use Rattle.fips202.specs.Laws.Table.{both, both_left, both_right}
use Rattle.fips202.specs.Laws.Lanes.{Bounded, same_table, written_out}
use Rattle.fips202.specs.Laws.Xor.{twice}
use Rattle.in_place.specs.Laws.Linear.{mixed, theta_bounded, theta_mixed, rho_mixed, pi_mixed}

-- ---- masks, and exclusive or

under_is : (m x : ℕ) → under m x ≡ bit_xor x m
under_is zero x = sym (xor_zero_r x)
under_is (suc m) x = refl

masked_is : (ms a : List ℕ) → masked ms a ≡ mixed a ms
unfolding masked mixed
masked_is ms a = same_table 25 0 _ _ (λ i. under_is (get_or ms i 0) (get_or a i 0))

under_twice : (m x : ℕ) → under m (under m x) ≡ x
under_twice zero x = refl
under_twice (suc m) x = twice x (suc m)

-- inverting twice is nothing
twice_masked : (ms : List ℕ) (f : ℕ → ℕ) → masked ms (masked ms (table_from 25 0 f)) ≡ table_from 25 0 f
unfolding masked
twice_masked ms f = same_table 25 0 (λ i. under (get_or ms i 0) (under (get_or ms i 0) (f i))) f (λ i. under_twice (get_or ms i 0) (f i))

pub complemented_twice : (a : List ℕ) → length a ≡ 25 → complemented (complemented a) ≡ a
unfolding complemented
complemented_twice a h =
    subst (λ (xs : List ℕ). masked between_rounds (masked between_rounds xs) ≡ xs) (sym (written_out a h)) (twice_masked between_rounds (λ k. get_or a k 0))

-- ---- θ, ρ and π take the masks between rounds to those at χ

abbrev small : List ℕ → Bool
small [] = true
small (x ∷ xs) = both (ltb x (2 ^ 64)) (small xs)

bounded : (xs : List ℕ) → T (small xs) → Bounded xs
bounded [] t k = lit< tt
bounded (x ∷ xs) t zero = ltb→lt x (2 ^ 64) (both_left (ltb x (2 ^ 64)) (small xs) t)
bounded (x ∷ xs) t (suc k) = bounded xs (both_right (ltb x (2 ^ 64)) (small xs) t) k

theta_small : Bounded (theta between_rounds)
unfolding theta rotl
theta_small = bounded (theta between_rounds) tt

moved : pi (rho (theta between_rounds)) ≡ before_chi
unfolding theta rho pi rotl
moved = refl

through : (a : List ℕ) → Bounded a → Bounded (theta a) → masked before_chi (pi (rho (theta a))) ≡ pi (rho (theta (complemented a)))
unfolding complemented
through a h t =
    masked_is before_chi (pi (rho (theta a)))
    ∙ sym
    (ap (λ (xs : List ℕ). pi (rho (theta xs))) (masked_is between_rounds a)
    ∙ ap (λ (xs : List ℕ). pi (rho xs)) (theta_mixed a between_rounds h (bounded between_rounds tt))
    ∙ ap pi (rho_mixed (theta a) (theta between_rounds) t theta_small)
    ∙ pi_mixed (rho (theta a)) (rho (theta between_rounds))
    ∙ ap (mixed (pi (rho (theta a)))) moved)

-- ---- ι: lane 0 is not inverted

iota_complemented : (k : ℕ) (a : List ℕ) → length a ≡ 25 → complemented (iota k (complemented a)) ≡ iota k a
unfolding complemented masked iota
iota_complemented k a h = ap (iota k) (complemented_twice a h)

iota_chi : (k : ℕ) (b : List ℕ) → complemented (iota k (complemented (chi b))) ≡ iota k (chi b)
unfolding chi
iota_chi k b = iota_complemented k (chi b) refl

-- ---- a round

pub round_held : (a : List ℕ) (k : ℕ) → Bounded a → complemented (iota k (held_chi (pi (rho (theta a))))) ≡ iota k (chi (pi (rho (theta (complemented a)))))
unfolding held_chi
round_held a k h =
    iota_chi k (masked before_chi (pi (rho (theta a)))) ∙ ap (λ (xs : List ℕ). iota k (chi xs)) (through a h (theta_bounded a h))
