-- Five lanes: equal by their lanes, and in bounds if they are.
use Rattle.std.specs.Prelude.{◌≡◌, refl, List, [], ◌∷◌, ℕ, zero, suc, ◌^◌, ◌<◌, get_or}
use Rattle.std.proofs.Common.{ap, ap₂, lit<}
use Rattle.std.specs.Int.Bits.{bit_xor}
use Rattle.fips202.specs.Fips202.{rotl}
use Rattle.fips202.specs.Laws.Lanes.{Bounded}
use Rattle.in_place.specs.Rows.{effect}

cons : {x y : ℕ} {xs ys : List ℕ} → x ≡ y → xs ≡ ys → x ∷ xs ≡ y ∷ ys
cons e f = ap₂ {C = List ℕ} (λ z zs. z ∷ zs) e f

pub five : {a0 a1 a2 a3 a4 b0 b1 b2 b3 b4 : ℕ} → a0 ≡ b0 → a1 ≡ b1 → a2 ≡ b2 → a3 ≡ b3 → a4 ≡ b4
    → a0 ∷ a1 ∷ a2 ∷ a3 ∷ a4 ∷ [] ≡ b0 ∷ b1 ∷ b2 ∷ b3 ∷ b4 ∷ []
five e0 e1 e2 e3 e4 = cons e0 (cons e1 (cons e2 (cons e3 (cons e4 refl))))

pub five_bounded : (b0 b1 b2 b3 b4 : ℕ) → b0 < 2 ^ 64 → b1 < 2 ^ 64 → b2 < 2 ^ 64 → b3 < 2 ^ 64 → b4 < 2 ^ 64
    → Bounded (b0 ∷ b1 ∷ b2 ∷ b3 ∷ b4 ∷ [])
five_bounded b0 b1 b2 b3 b4 h0 h1 h2 h3 h4 zero = h0
five_bounded b0 b1 b2 b3 b4 h0 h1 h2 h3 h4 (suc zero) = h1
five_bounded b0 b1 b2 b3 b4 h0 h1 h2 h3 h4 (suc (suc zero)) = h2
five_bounded b0 b1 b2 b3 b4 h0 h1 h2 h3 h4 (suc (suc (suc zero))) = h3
five_bounded b0 b1 b2 b3 b4 h0 h1 h2 h3 h4 (suc (suc (suc (suc zero)))) = h4
five_bounded b0 b1 b2 b3 b4 h0 h1 h2 h3 h4 (suc (suc (suc (suc (suc k))))) = lit< tt

-- θ's effect, of the parities rotated
pub beside : (c : List ℕ) {r0 r1 r2 r3 r4 : ℕ}
    → r0 ≡ rotl (get_or c 0 0) 1 → r1 ≡ rotl (get_or c 1 0) 1 → r2 ≡ rotl (get_or c 2 0) 1 → r3 ≡ rotl (get_or c 3 0) 1 → r4 ≡ rotl (get_or c 4 0) 1
    → bit_xor (get_or c 4 0) r1 ∷ bit_xor (get_or c 0 0) r2 ∷ bit_xor (get_or c 1 0) r3 ∷ bit_xor (get_or c 2 0) r4 ∷ bit_xor (get_or c 3 0) r0 ∷ [] ≡ effect c
unfolding effect
beside c e0 e1 e2 e3 e4 =
    five (ap (bit_xor (get_or c 4 0)) e1) (ap (bit_xor (get_or c 0 0)) e2) (ap (bit_xor (get_or c 1 0)) e3) (ap (bit_xor (get_or c 2 0)) e4)
    (ap (bit_xor (get_or c 3 0)) e0)
