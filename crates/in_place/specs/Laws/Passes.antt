-- A round in the state itself: the five rows, each written to the places that it is read from, are the definition's round where the lanes stand after it.
use Rattle.std.specs.Prelude.{◌≡◌, refl, List, ℕ, zero, suc, ◌+◌, ◌-◌, ◌*◌, ◌/◌, ◌%◌, ◌^◌, ◌<◌, get_or}
use Rattle.std.proofs.Common.{sym, ap, ap₂, ◌∙◌, subst}
use Rattle.std.specs.Int.Bits.{bit_xor}
use Rattle.fips202.specs.Fips202.{table_from, state, lane, theta, rho, pi, chi, iota}
use Rattle.fips202.specs.Laws.Lanes.{Bounded, table_bounded, written_out}
use Rattle.in_place.specs.Complemented.{masked, complemented, held_chi}
use Rattle.in_place.specs.Places.{Places, standing, Known, pick, held, place, lanes}
use Rattle.in_place.specs.Rows.{effect, rotated, held_chi_row, held_row, held_first_row}
use Rattle.in_place.specs.Rounds.{taken, put, passed, first_row, parities, effect_of, four_rows, row_after, places_after}
use Rattle.in_place.specs.Laws.Complementing.{round_held}

-- ---- bounds

pick_lt : (n a b : ℕ) → a < 2 ^ 64 → b < 2 ^ 64 → pick n a b < 2 ^ 64
pick_lt zero a b ha hb = ha
pick_lt (suc n) a b ha hb = hb

lanes_bounded : (r : ℕ) (s : Places) → Known s → Bounded (lanes r s)
unfolding lanes
lanes_bounded r s h =
    table_bounded 25 0 (λ i. held s (place r (i % 5) (i / 5)))
    (λ i.
    let n = place r (i % 5) (i / 5) in
    pick_lt (n % 5 % 2) (get_or s.p (3 * (n / 5) + n % 5 / 2) 0) (get_or s.q (2 * (n / 5) + n % 5 / 2) 0) (h.small_p _) (h.small_q _))

-- ---- θ is its effect, spread over the columns

unfoldable pub spread : List ℕ → List ℕ → List ℕ
spread a d = state (λ x y. bit_xor (lane a x y) (get_or d x 0))

theta_is : (a : List ℕ) → spread a (effect (parities (first_row a) a)) ≡ theta a
unfolding spread effect parities first_row theta
theta_is a = refl

-- ---- the five rows

abbrev pub first : ℕ → List ℕ → ℕ → Places → List ℕ
first r d k s = held_first_row (taken r 0 d (four_rows r d s)) k

abbrev pub Rows : ℕ → List ℕ → ℕ → Places → Type 0
Rows r d k s =
    (lanes (1 - r) (put (1 - r) 0 (first r d k s) (four_rows r d s)) ≡ iota k (held_chi (pi (rho (spread (lanes r s) d)))))
    × (first r d k s ≡ first_row (lanes (1 - r) (put (1 - r) 0 (first r d k s) (four_rows r d s))))

-- what holds of places written out
pub by_places : (P : Places → Type 0) → ((f g : ℕ → ℕ) → P (standing (table_from 15 0 f) (table_from 10 0 g))) → (s : Places) → Known s → P s
by_places P h s k =
    subst (λ (xs : List ℕ). P (standing xs s.q)) (sym (written_out s.p k.long_p))
    (subst (λ (ys : List ℕ). P (standing (table_from 15 0 (λ i. get_or s.p i 0)) ys)) (sym (written_out s.q k.long_q))
    (h (λ i. get_or s.p i 0) (λ i. get_or s.q i 0)))

even_rows : (d : List ℕ) (k : ℕ) (s : Places) → Known s → Rows 0 d k s
unfolding lanes rotated held_chi_row held_row held_first_row taken put passed first_row spread rho pi chi iota held_chi complemented masked
even_rows d k = by_places (Rows 0 d k) (λ f g. (refl, refl))

odd_rows : (d : List ℕ) (k : ℕ) (s : Places) → Known s → Rows 1 d k s
unfolding lanes rotated held_chi_row held_row held_first_row taken put passed first_row spread rho pi chi iota held_chi complemented masked
odd_rows d k = by_places (Rows 1 d k) (λ f g. (refl, refl))

-- ---- the round is FIPS 202's, of what the places mean, and it hands on its row 0

pub record RoundIs (r : ℕ) (t : List ℕ) (k : ℕ) (s : Places) : Type 0 where
  pub round : complemented (lanes (1 - r) (places_after r t k s)) ≡ iota k (chi (pi (rho (theta (complemented (lanes r s))))))
  pub row : row_after r t k s ≡ first_row (lanes (1 - r) (places_after r t k s))

round_is : (r : ℕ) → ((d : List ℕ) (k : ℕ) (s : Places) → Known s → Rows r d k s)
    → (s : Places) (t : List ℕ) (k : ℕ) → Known s → t ≡ first_row (lanes r s) → RoundIs r t k s
unfolding row_after places_after
round_is r rows s t k h e =
    let a : List ℕ = lanes r s in
    let d : List ℕ = effect_of r t s in
    let w : spread a d ≡ theta a = ap (λ (u : List ℕ). spread a (effect (parities u a))) e ∙ theta_is a in
    record {
      round = ap complemented ((rows d k s h).0 ∙ ap (λ (u : List ℕ). iota k (held_chi (pi (rho u)))) w) ∙ round_held a k (lanes_bounded r s h);
      row = (rows d k s h).1;
    }

pub even_round : (s : Places) (t : List ℕ) (k : ℕ) → Known s → t ≡ first_row (lanes 0 s) → RoundIs 0 t k s
even_round = round_is 0 even_rows

pub odd_round : (s : Places) (t : List ℕ) (k : ℕ) → Known s → t ≡ first_row (lanes 1 s) → RoundIs 1 t k s
odd_round = round_is 1 odd_rows

-- ---- a row that is made of the lanes taken, and put, is passed

pub row_passed : (r j : ℕ) (d : List ℕ) (s : Places) (e : List ℕ) → e ≡ held_row j (taken r j d s) → put (1 - r) j e s ≡ passed r j d s
unfolding passed
row_passed r j d s e h = ap (λ (x : List ℕ). put (1 - r) j x s) h

-- ---- the steps in a row are the round

pub round_made : (r : ℕ) (s s1 s2 s3 s4 s5 : Places) (t c d e : List ℕ) (k : ℕ) → c ≡ parities t (lanes r s) → d ≡ effect c
    → s1 ≡ passed r 4 d s → s2 ≡ passed r 3 d s1 → s3 ≡ passed r 1 d s2 → s4 ≡ passed r 2 d s3
    → e ≡ held_first_row (taken r 0 d s4) k → s5 ≡ put (1 - r) 0 e s4
    → (e ≡ row_after r t k s) × (s5 ≡ places_after r t k s)
unfolding row_after places_after
round_made r s s1 s2 s3 s4 s5 t c d e k ec ed e1 e2 e3 e4 ee e5 =
    let f : d ≡ effect_of r t s = ed ∙ ap effect ec in
    let g : s4 ≡ four_rows r (effect_of r t s) s
    = e4 ∙ ap (passed r 2 d) (e3 ∙ ap (passed r 1 d) (e2 ∙ ap (passed r 3 d) e1)) ∙ ap (λ (u : List ℕ). four_rows r u s) f in
    let fe : e ≡ row_after r t k s = ee ∙ ap₂ (λ (u : Places) (v : List ℕ). held_first_row (taken r 0 v u) k) g f in
    (fe, e5 ∙ ap₂ (put (1 - r) 0) fe g)
