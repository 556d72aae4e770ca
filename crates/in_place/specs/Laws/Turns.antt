-- Rounds one after the other: a turn of a loop that runs an even and an odd round, rounds with the constants of a list, and a state read off its columns.
use Rattle.std.specs.Prelude.{◌≡◌, refl, List, ℕ, zero, suc, ◌+◌, ◌*◌, ◌%◌, ◌<◌, length, get_or}
use Rattle.std.proofs.Common.{sym, ap, ap₂, ◌∙◌, mod-eq_of_lt, arith}
use Rattle.fips202.specs.Fips202.{theta, rho, pi, chi, iota, round_constant, round, rounds, keccak_p}
use Rattle.in_place.specs.Complemented.{masked, complemented}
use Rattle.in_place.specs.Places.{Places, standing, Known, lanes, even_columns, odd_columns}
use Rattle.in_place.specs.Rounds.{first_row, row_after, places_after, state_of, rounds_with, RoundConstants}
use Rattle.in_place.specs.Laws.Complementing.{complemented_twice}
use Rattle.in_place.specs.Laws.Passes.{RoundIs, even_round, odd_round}

-- ---- n rounds from the state a, n being even: row 0 is at hand, and the places mean the state after them

pub record Reached (ks a : List ℕ) (n : ℕ) (s : Places) (t : List ℕ) : Type 0 where
  pub row : t ≡ first_row (lanes 0 s)
  pub state : complemented (lanes 0 s) ≡ rounds_with n ks a

two_more : (ks a s u v : List ℕ) (k l i : ℕ) → k ≡ get_or ks (2 * i) 0 → l ≡ get_or ks (2 * i + 1) 0
    → s ≡ rounds_with (2 * i) ks a → u ≡ iota k (chi (pi (rho (theta s)))) → v ≡ iota l (chi (pi (rho (theta u)))) → v ≡ rounds_with (2 * (i + 1)) ks a
unfolding rounds_with
two_more ks a s u v k l i hk hl hs hu hv =
    let step : ℕ → List ℕ → List ℕ = λ n xs. iota n (chi (pi (rho (theta xs)))) in
    let e : 2 * (i + 1) ≡ suc (suc (2 * i)) = omega arith in
    let d : 2 * i + 1 ≡ suc (2 * i) = omega arith in
    hv
    ∙ ap₂ step (hl ∙ ap (λ (n : ℕ). get_or ks n 0) d) (hu ∙ ap₂ step hk hs)
    ∙ sym (ap (λ (n : ℕ). rounds_with n ks a) e)

-- a turn: the constants are read at 2 i and 2 i + 1 of 24
module _ (ks a : List ℕ) (i : ℕ) (h : i < 12) where
  abbrev k : ℕ
  k = get_or ks (2 * i % 24) 0

  abbrev l : ℕ
  l = get_or ks ((2 * i + 1) % 24) 0

  pub two_rounds : (s s1 s2 : Places) (t u v : List ℕ) → Known s → Known s1 → Reached ks a (2 * i) s t
      → u ≡ row_after 0 t k s → s1 ≡ places_after 0 t k s → v ≡ row_after 1 u l s1 → s2 ≡ places_after 1 u l s1 → Reached ks a (2 * (i + 1)) s2 v
  two_rounds s s1 s2 t u v hs h1 at eu e1 ev e2 =
      let even : RoundIs 0 t k s = even_round s t k hs at.row in
      let odd : RoundIs 1 u l s1 = odd_round s1 u l h1 (eu ∙ even.row ∙ ap (λ (x : Places). first_row (lanes 1 x)) (sym e1)) in
      record {
        row = ev ∙ odd.row ∙ ap (λ (x : Places). first_row (lanes 0 x)) (sym e2);
        state =
            two_more ks a (complemented (lanes 0 s)) (complemented (lanes 1 s1)) (complemented (lanes 0 s2)) k l i
            (ap (λ (n : ℕ). get_or ks n 0) (mod-eq_of_lt (omega arith))) (ap (λ (n : ℕ). get_or ks n 0) (mod-eq_of_lt (omega arith)))
            at.state (ap (λ (x : Places). complemented (lanes 1 x)) e1 ∙ even.round) (ap (λ (x : Places). complemented (lanes 0 x)) e2 ∙ odd.round);
      }

-- ---- the first n rounds, where the list has their constants

all_rounds : (n : ℕ) (ks a : List ℕ) → ((i : ℕ) → i < n → get_or ks i 0 ≡ round_constant i) → rounds_with n ks a ≡ rounds n a
unfolding rounds_with rounds round
all_rounds zero ks a h = refl
all_rounds (suc n) ks a h =
    ap₂ (λ (k : ℕ) (xs : List ℕ). iota k (chi (pi (rho (theta xs))))) (h n (omega arith)) (all_rounds n ks a (λ i l. h i (omega arith)))

-- 24 of them are the permutation
pub permutation : (ks a : List ℕ) → RoundConstants ks → rounds_with 24 ks a ≡ keccak_p a
unfolding keccak_p
permutation ks a h = all_rounds 24 ks a h

-- ---- a state is that of its columns

columns : (a : List ℕ) → lanes 0 (standing (even_columns (complemented a)) (odd_columns (complemented a))) ≡ complemented a
unfolding lanes even_columns odd_columns complemented masked
columns a = refl

pub state_of-columns : (a p q : List ℕ) → p ≡ even_columns (complemented a) → q ≡ odd_columns (complemented a) → length a ≡ 25 → state_of p q ≡ a
state_of-columns a p q ep eq h = ap₂ state_of ep eq ∙ ap complemented (columns a) ∙ complemented_twice a h
