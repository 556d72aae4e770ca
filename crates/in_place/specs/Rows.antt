-- A round's parts on five lanes each: θ's effect on the columns, and the rows from ρ to χ and ι, of which some lanes are held inverted.
use Rattle.std.specs.Prelude.{List, ℕ, ◌+◌, ◌-◌, ◌*◌, ◌%◌, ◌^◌, get_or, set}
use Rattle.std.specs.Int.Bits.{bit_xor, bit_and}
use Rattle.fips202.specs.Fips202.{table_from, rotl, offset}
use Rattle.in_place.specs.Complemented.{under, between_rounds, before_chi}

-- θ's effect on each column, of the parities c of all five
unfoldable pub effect : List ℕ → List ℕ
effect c = table_from 5 0 (λ x. bit_xor (get_or c ((x + 4) % 5) 0) (rotl (get_or c ((x + 1) % 5) 0) 1))

-- row j before χ, of the five lanes a that π brings there
unfoldable pub rotated : ℕ → List ℕ → List ℕ
rotated j a = table_from 5 0 (λ x. rotl (get_or a x 0) (offset ((x + 3 * j) % 5) x))

-- what is meant by the lane x of row j, of what is held before χ
abbrev pub meant : ℕ → List ℕ → ℕ → ℕ
meant j b x = under (get_or before_chi (5 * j + x % 5) 0) (get_or b (x % 5) 0)

-- row j of what is held after χ, of what is held before it
unfoldable pub held_chi_row : ℕ → List ℕ → List ℕ
held_chi_row j b =
    table_from 5 0
    (λ x.
    under (get_or between_rounds (5 * j + x) 0)
    (bit_xor (meant j b x) (bit_and (2 ^ 64 - 1 - meant j b (x + 1)) (meant j b (x + 2)))))

unfoldable pub held_row : ℕ → List ℕ → List ℕ
held_row j a = held_chi_row j (rotated j a)

-- row 0 with ι
unfoldable pub held_first_row : List ℕ → ℕ → List ℕ
held_first_row a k = set (held_row 0 a) 0 (bit_xor (get_or (held_row 0 a) 0 0) k)
