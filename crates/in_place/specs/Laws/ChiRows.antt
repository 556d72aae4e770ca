-- χ on a row of what is held, in the forms that the code has: each lane by one form of `ChiForms`.
use Rattle.std.specs.Prelude.{◌≡◌, List, [], ◌∷◌, ℕ}
use Rattle.std.specs.Int.Bits.{bit_xor, bit_and, bit_or}
use Rattle.fips202.specs.Laws.Lanes.{Bounded}
use Rattle.in_place.specs.Complemented.{ones}
use Rattle.in_place.specs.Rows.{held_chi_row}
use Rattle.in_place.specs.Laws.FiveLanes.{five}
use Rattle.in_place.specs.Laws.ChiForms.{po, pq, pqo, pr, p_only, q_only, qro, r_only, ro}

module _ (b0 b1 b2 b3 b4 : ℕ) (h : Bounded (b0 ∷ b1 ∷ b2 ∷ b3 ∷ b4 ∷ [])) where
  abbrev b : List ℕ
  b = b0 ∷ b1 ∷ b2 ∷ b3 ∷ b4 ∷ []

  pub chi_row0 : bit_xor b0 (bit_or b1 b2) ∷ bit_xor b1 (bit_or (bit_xor b2 ones) b3) ∷ bit_xor b2 (bit_and b3 b4) ∷ bit_xor b3 (bit_or b4 b0)
      ∷ bit_xor b4 (bit_and b0 b1) ∷ [] ≡ held_chi_row 0 b
  unfolding held_chi_row
  chi_row0 = five (pr b h 0 1 2) (qro b h 1 2 3) (pqo b h 2 3 4) (pr b h 3 4 0) (q_only b h 4 0 1)

  pub chi_row1 : bit_xor b0 (bit_or b1 b2) ∷ bit_xor b1 (bit_and b2 b3) ∷ bit_xor b2 (bit_or b3 (bit_xor b4 ones)) ∷ bit_xor b3 (bit_or b4 b0)
      ∷ bit_xor b4 (bit_and b0 b1) ∷ [] ≡ held_chi_row 1 b
  unfolding held_chi_row
  chi_row1 = five (pr b h 0 1 2) (q_only b h 1 2 3) (p_only b h 2 3 4) (ro b h 3 4 0) (q_only b h 4 0 1)

  pub chi_row2 : bit_xor b0 (bit_or b1 b2) ∷ bit_xor b1 (bit_and b2 b3) ∷ bit_xor b2 (bit_and (bit_xor b3 ones) b4) ∷ bit_xor b3 (bit_xor (bit_or b4 b0) ones)
      ∷ bit_xor b4 (bit_and b0 b1) ∷ [] ≡ held_chi_row 2 b
  unfolding held_chi_row
  chi_row2 = five (pr b h 0 1 2) (q_only b h 1 2 3) (po b h 2 3 4) (r_only b h 3 4 0) (q_only b h 4 0 1)

  pub chi_row3 : bit_xor b0 (bit_and b1 b2) ∷ bit_xor b1 (bit_or b2 b3) ∷ bit_xor b2 (bit_or (bit_xor b3 ones) b4) ∷ bit_xor b3 (bit_xor (bit_and b4 b0) ones)
      ∷ bit_xor b4 (bit_or b0 b1) ∷ [] ≡ held_chi_row 3 b
  unfolding held_chi_row
  chi_row3 = five (q_only b h 0 1 2) (pr b h 1 2 3) (qro b h 2 3 4) (pq b h 3 4 0) (pr b h 4 0 1)

  pub chi_row4 : bit_xor b0 (bit_and (bit_xor b1 ones) b2) ∷ bit_xor b1 (bit_xor (bit_or b2 b3) ones) ∷ bit_xor b2 (bit_and b3 b4) ∷ bit_xor b3 (bit_or b4 b0)
      ∷ bit_xor b4 (bit_and b0 b1) ∷ [] ≡ held_chi_row 4 b
  unfolding held_chi_row
  chi_row4 = five (po b h 0 1 2) (r_only b h 1 2 3) (q_only b h 2 3 4) (pr b h 3 4 0) (q_only b h 4 0 1)
