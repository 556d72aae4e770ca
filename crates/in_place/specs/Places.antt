-- Where the lanes stand: the lane (x, y) at the place (x, y) before even rounds and at the place (2 x + y, 2 x + 3 y) before odd ones, so that a row of a round
-- is written to the five places that it is read from.
use Rattle.std.specs.Prelude.{◌≡◌, List, ℕ, zero, suc, ◌+◌, ◌*◌, ◌/◌, ◌%◌, ◌^◌, ◌<◌, length, get_or, set}
use Rattle.fips202.specs.Fips202.{table_from, state, lane}

-- the 25 places, in two arrays: p has the columns 0, 2 and 4, row by row, and q the columns 1 and 3
pub record Places : Type 0 where
  pub p : List ℕ
  pub q : List ℕ

abbrev pub standing : List ℕ → List ℕ → Places
standing p q = record { p = p; q = q }

-- what two arrays of 15 and of 10 lanes are known to be
pub record Known (s : Places) : Type 0 where
  pub long_p : length s.p ≡ 15
  pub long_q : length s.q ≡ 10
  pub small_p : (i : ℕ) → get_or s.p i 0 < 2 ^ 64
  pub small_q : (i : ℕ) → get_or s.q i 0 < 2 ^ 64

-- a where n is 0, else b
abbrev pub pick : {A : Type 0} → ℕ → A → A → A
pick zero a b = a
pick (suc n) a b = b

-- what stands at the place (X, Y), of the number n = 5 Y + X; and v stored there
abbrev pub held : Places → ℕ → ℕ
held s n = pick (n % 5 % 2) (get_or s.p (3 * (n / 5) + n % 5 / 2) 0) (get_or s.q (2 * (n / 5) + n % 5 / 2) 0)

abbrev pub store : ℕ → ℕ → Places → Places
store n v s =
    pick (n % 5 % 2) (standing (set s.p (3 * (n / 5) + n % 5 / 2) v) s.q) (standing s.p (set s.q (2 * (n / 5) + n % 5 / 2) v))

-- the place of the lane (x, y): before even rounds, where r is 0, and before odd ones
abbrev pub place : ℕ → ℕ → ℕ → ℕ
place zero x y = 5 * (y % 5) + x % 5
place (suc r) x y = 5 * ((2 * x + 3 * y) % 5) + (2 * x + y) % 5

-- the state, of its places
unfoldable pub lanes : ℕ → Places → List ℕ
lanes r s = state (λ x y. held s (place r x y))

-- the places of a state before even rounds
unfoldable pub even_columns : List ℕ → List ℕ
even_columns a = table_from 15 0 (λ i. lane a (2 * (i % 3)) (i / 3))

unfoldable pub odd_columns : List ℕ → List ℕ
odd_columns a = table_from 10 0 (λ i. lane a (2 * (i % 2) + 1) (i / 2))
