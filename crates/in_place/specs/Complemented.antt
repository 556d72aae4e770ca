-- Lane complementing: six lanes are held inverted between rounds, so that χ inverts 8 lanes and not 25.
use Rattle.std.specs.Prelude.{List, [], ◌∷◌, ℕ, zero, suc, ◌-◌, ◌^◌, get_or}
use Rattle.std.specs.Int.Bits.{bit_xor}
use Rattle.fips202.specs.Fips202.{table_from, chi}

abbrev pub ones : ℕ
ones = 2 ^ 64 - 1

-- x under the mask m: exclusive or, and x itself where m is 0
abbrev pub under : ℕ → ℕ → ℕ
under zero x = x
under (suc m) x = bit_xor x (suc m)

-- a state under a mask for each lane
unfoldable pub masked : List ℕ → List ℕ → List ℕ
masked ms a = table_from 25 0 (λ i. under (get_or ms i 0) (get_or a i 0))

-- the masks between rounds: lanes 1, 2, 8, 12, 17 and 20
abbrev pub between_rounds : List ℕ
between_rounds =
    0 ∷ ones ∷ ones ∷ 0 ∷ 0
    ∷ 0 ∷ 0 ∷ 0 ∷ ones ∷ 0
    ∷ 0 ∷ 0 ∷ ones ∷ 0 ∷ 0
    ∷ 0 ∷ 0 ∷ ones ∷ 0 ∷ 0
    ∷ ones ∷ 0 ∷ 0 ∷ 0 ∷ 0
    ∷ []

-- what θ, ρ and π make of them
abbrev pub before_chi : List ℕ
before_chi =
    ones ∷ 0 ∷ ones ∷ ones ∷ 0
    ∷ ones ∷ 0 ∷ ones ∷ 0 ∷ 0
    ∷ ones ∷ 0 ∷ ones ∷ 0 ∷ 0
    ∷ 0 ∷ ones ∷ 0 ∷ ones ∷ ones
    ∷ ones ∷ 0 ∷ 0 ∷ ones ∷ 0
    ∷ []

-- from the state to what is held of it, and back
unfoldable pub complemented : List ℕ → List ℕ
complemented a = masked between_rounds a

-- χ on what is held
unfoldable pub held_chi : List ℕ → List ℕ
held_chi b = complemented (chi (masked before_chi b))
