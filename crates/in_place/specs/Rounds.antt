-- A round in the state itself, and rounds with the constants of a list. A round takes row 0 of its state as an argument t, which the round before it hands on:
-- the code keeps those five lanes in registers. It is defined for every t; it is FIPS 202's round where t is the state's row 0 (`Laws.Passes.round_is`).
use Rattle.std.specs.Prelude.{◌≡◌, List, ℕ, zero, suc, ◌+◌, ◌-◌, ◌*◌, ◌%◌, ◌<◌, get_or}
use Rattle.std.specs.Int.Bits.{bit_xor}
use Rattle.fips202.specs.Fips202.{table_from, lane, theta, rho, pi, chi, iota, round_constant}
use Rattle.in_place.specs.Complemented.{complemented}
use Rattle.in_place.specs.Places.{Places, standing, held, store, place, lanes}
use Rattle.in_place.specs.Rows.{effect, held_row, held_first_row}

-- ---- a row where it stands

-- the lanes that π brings to row j, with θ's effect d on their columns; and the row's own, written
unfoldable pub taken : ℕ → ℕ → List ℕ → Places → List ℕ
taken r j d s = table_from 5 0 (λ x. bit_xor (held s (place r (x + 3 * j) x)) (get_or d ((x + 3 * j) % 5) 0))

unfoldable pub put : ℕ → ℕ → List ℕ → Places → Places
put r j e s =
    store (place r 4 j) (get_or e 4 0)
    (store (place r 3 j) (get_or e 3 0)
    (store (place r 2 j) (get_or e 2 0) (store (place r 1 j) (get_or e 1 0) (store (place r 0 j) (get_or e 0 0) s))))

-- row j passed: taken, and put where its lanes stand before the next round
unfoldable pub passed : ℕ → ℕ → List ℕ → Places → Places
passed r j d s = put (1 - r) j (held_row j (taken r j d s)) s

-- ---- θ

-- row 0 of a state
unfoldable pub first_row : List ℕ → List ℕ
first_row a = table_from 5 0 (λ x. lane a x 0)

-- the columns' parities, their lanes of row 0 from t
unfoldable pub parities : List ℕ → List ℕ → List ℕ
parities t a = table_from 5 0 (λ x. bit_xor (bit_xor (bit_xor (bit_xor (get_or t x 0) (lane a x 1)) (lane a x 2)) (lane a x 3)) (lane a x 4))

-- ---- a round: rows 4, 3, 1 and 2 passed, then row 0 with the constant k

abbrev pub four_rows : ℕ → List ℕ → Places → Places
four_rows r d s = passed r 2 d (passed r 1 d (passed r 3 d (passed r 4 d s)))

abbrev pub effect_of : ℕ → List ℕ → Places → List ℕ
effect_of r t s = effect (parities t (lanes r s))

-- row 0 after the round, and all places after it
unfoldable pub row_after : ℕ → List ℕ → ℕ → Places → List ℕ
row_after r t k s = held_first_row (taken r 0 (effect_of r t s) (four_rows r (effect_of r t s) s)) k

unfoldable pub places_after : ℕ → List ℕ → ℕ → Places → Places
places_after r t k s = put (1 - r) 0 (row_after r t k s) (four_rows r (effect_of r t s) s)

-- ---- rounds

-- the state that the two arrays hold between permutations
abbrev pub state_of : List ℕ → List ℕ → List ℕ
state_of p q = complemented (lanes 0 (standing p q))

-- n rounds of FIPS 202, with the constants of a list
unfoldable pub rounds_with : ℕ → List ℕ → List ℕ → List ℕ
rounds_with zero ks a = a
rounds_with (suc n) ks a = iota (get_or ks n 0) (chi (pi (rho (theta (rounds_with n ks a)))))

-- a list of the 24 round constants
abbrev pub RoundConstants : List ℕ → Type 0
RoundConstants ks = (i : ℕ) → i < 24 → get_or ks i 0 ≡ round_constant i
