-- The round constants, made of the table of rc: what antt computes over the tables, and one law that takes it to every round.
use Rattle.std.specs.Prelude.{◌≡◌, refl, Bool, List, [], ◌∷◌, ℕ, zero, suc, ◌+◌, ◌-◌, ◌*◌, ◌/◌, ◌%◌, ◌^◌, ◌<◌, eqb, get_or}
use Rattle.std.proofs.Common.{sym, ap₂, ap, ◌∙◌, div-add-mod', arith, eqb→eq}
use Rattle.std.proofs.Math.Nat.{add-mul-mod_self_right}
use Rattle.std.specs.Int.Bits.{bit_or}
use Rattle.fips202.specs.Fips202.{rc, constant_of, round_constant}
use Rattle.fips202.specs.Laws.Table.{at}
use Rattle.round_constants.specs.Laws.RcBits.{bits, bit_of, bits_are, rc_period}

-- rules for the bits that agree make one constant
same : (f g : ℕ → ℕ) (i k j : ℕ) → ((j : ℕ) → f (j + 7 * i) ≡ g (j + 7 * k)) → constant_of f i j ≡ constant_of g k j
same f g i k zero h = refl
same f g i k (suc j) h = ap₂ (λ (m n : ℕ). m + n * 2 ^ (2 ^ j - 1)) (same f g i k j h) (h j)

-- the code's table of the 24
abbrev pub constants : List ℕ
constants =
    0x0000000000000001 ∷ 0x0000000000008082 ∷ 0x800000000000808a ∷ 0x8000000080008000
    ∷ 0x000000000000808b ∷ 0x0000000080000001 ∷ 0x8000000080008081 ∷ 0x8000000000008009
    ∷ 0x000000000000008a ∷ 0x0000000000000088 ∷ 0x0000000080008009 ∷ 0x000000008000000a
    ∷ 0x000000008000808b ∷ 0x800000000000008b ∷ 0x8000000000008089 ∷ 0x8000000000008003
    ∷ 0x8000000000008002 ∷ 0x8000000000000080 ∷ 0x000000000000800a ∷ 0x800000008000000a
    ∷ 0x8000000080008081 ∷ 0x8000000000008080 ∷ 0x0000000080000001 ∷ 0x8000000080008008
    ∷ []

listed : ℕ → ℕ → Bool
listed i x = eqb x (constant_of bit_of i 7)

pub constants_are : (i : ℕ) → i < 24 → get_or constants i 0 ≡ round_constant i
unfolding listed bit_of bits round_constant
constants_are i h = eqb→eq (get_or constants i 0) (constant_of bit_of i 7) (at listed constants tt i h) ∙ same bit_of rc i i 7 (λ j. bits_are (j + 7 * i))

-- seven bits, each shifted to its place in a `u64`
unfoldable pub assembled : (b0 b1 b2 b3 b4 b5 b6 : ℕ) → ℕ
assembled b0 b1 b2 b3 b4 b5 b6 =
    bit_or
    (bit_or
    (bit_or
    (bit_or (bit_or (bit_or b0 (b1 * 2 ^ 1 % 2 ^ 64)) (b2 * 2 ^ 3 % 2 ^ 64)) (b3 * 2 ^ 7 % 2 ^ 64))
    (b4 * 2 ^ 15 % 2 ^ 64))
    (b5 * 2 ^ 31 % 2 ^ 64))
    (b6 * 2 ^ 63 % 2 ^ 64)

-- of equal bits
same_assembled : (b0 b1 b2 b3 b4 b5 b6 c0 c1 c2 c3 c4 c5 c6 : ℕ) → b0 ≡ c0 → b1 ≡ c1 → b2 ≡ c2 → b3 ≡ c3 → b4 ≡ c4 → b5 ≡ c5 → b6 ≡ c6
    → assembled b0 b1 b2 b3 b4 b5 b6 ≡ assembled c0 c1 c2 c3 c4 c5 c6
same_assembled b0 b1 b2 b3 b4 b5 b6 c0 c1 c2 c3 c4 c5 c6 e0 e1 e2 e3 e4 e5 e6 =
    ap₂ (λ (x y : ℕ). assembled x y b2 b3 b4 b5 b6) e0 e1
    ∙ ap₂ (λ (x y : ℕ). assembled c0 c1 x y b4 b5 b6) e2 e3
    ∙ ap₂ (λ (x y : ℕ). assembled c0 c1 c2 c3 x y b6) e4 e5
    ∙ ap (λ (x : ℕ). assembled c0 c1 c2 c3 c4 c5 x) e6

-- those of f from t on
abbrev seven : (ℕ → ℕ) → ℕ → ℕ
seven f t = assembled (f t) (f (t + 1)) (f (t + 2)) (f (t + 3)) (f (t + 4)) (f (t + 5)) (f (t + 6))

-- over a whole period of the rounds, for which the table of bits has an entry each
placed : ℕ → ℕ → Bool
placed i x = eqb (seven bit_of (7 * i)) (constant_of bit_of i 7)

placed_are : (i : ℕ) → i < 255 → seven bit_of (7 * i) ≡ constant_of bit_of i 7
unfolding placed bit_of bits assembled
placed_are i h = eqb→eq (seven bit_of (7 * i)) (constant_of bit_of i 7) (at placed bits tt i h)

-- a round has the bits of the same round within the period
within : (i j : ℕ) → (j + 7 * (i % 255)) % 255 ≡ (j + 7 * i) % 255
within i j =
    let e : j + 7 * i ≡ j + 7 * (i % 255) + 7 * (i / 255) * 255 = omega (arith, div-add-mod' i 255) in
    sym (ap (λ (n : ℕ). n % 255) e ∙ add-mul-mod_self_right (j + 7 * (i % 255)) (7 * (i / 255)) 255)

-- rc from t on, assembled, where t is that of a round within the period
pub assembled_is : (i b0 b1 b2 b3 b4 b5 b6 : ℕ) → b0 ≡ rc (7 * (i % 255)) → b1 ≡ rc (7 * (i % 255) + 1) → b2 ≡ rc (7 * (i % 255) + 2)
    → b3 ≡ rc (7 * (i % 255) + 3) → b4 ≡ rc (7 * (i % 255) + 4) → b5 ≡ rc (7 * (i % 255) + 5) → b6 ≡ rc (7 * (i % 255) + 6)
    → assembled b0 b1 b2 b3 b4 b5 b6 ≡ round_constant i
unfolding round_constant
assembled_is i b0 b1 b2 b3 b4 b5 b6 e0 e1 e2 e3 e4 e5 e6 =
    let is : (b t : ℕ) → b ≡ rc t → b ≡ bit_of t = λ b t e. e ∙ sym (bits_are t) in
    same_assembled _ _ _ _ _ _ _ _ _ _ _ _ _ _ (is _ _ e0) (is _ _ e1) (is _ _ e2) (is _ _ e3) (is _ _ e4) (is _ _ e5) (is _ _ e6)
    ∙ placed_are (i % 255) (omega arith)
    ∙ same bit_of rc (i % 255) i 7 (λ j. bits_are (j + 7 * (i % 255)) ∙ rc_period (j + 7 * (i % 255)) (j + 7 * i) (within i j))
