-- The rotation's laws, at every count k: the code's shifts and `|` make it, and it goes over exclusive or.
use Rattle.std.specs.Prelude.{◌≡◌, refl, ℕ, zero, suc, ◌+◌, ◌-◌, ◌*◌, ◌/◌, ◌%◌, ◌^◌, ◌<◌}
use Rattle.std.proofs.Common.{sym, ap, ap₂, ◌∙◌, subst, add-zero, mod-lt, not-suc-le-zero, div-le_self, lt_of_le_of_lt, arith, lit<, shr_lt}
use Rattle.std.proofs.Math.Nat.{mul-mod_left}
use Rattle.std.specs.Int.Bits.{bit_or, bit_xor, xor_shifted}
use Rattle.std.proofs.lemmas.Nat.{or_shifted, xor_mod, xor_shr, xor_lt, or_lt, mod-pow-add, shl-shr}
use Rattle.fips202.specs.Fips202.{rotl}
use Rattle.fips202.specs.Laws.Xor.{xor_scale, interchange}

-- `(x << k) | (x >> (64 - k))`, for k from 1 to 63
pub shifts : (x k : ℕ) → 0 < k → bit_or (x * 2 ^ k % 2 ^ 64) (x / 2 ^ (64 - k)) ≡ rotl x k
unfolding rotl
shifts x zero h = absurd (not-suc-le-zero h)
shifts x (suc k) h = refl

-- the rotation of a lane is a lane
pub rotl_lt : (x k : ℕ) → x < 2 ^ 64 → rotl x k < 2 ^ 64
unfolding rotl
rotl_lt x zero h = h
rotl_lt x (suc k) h =
    or_lt 64 (x * 2 ^ suc k % 2 ^ 64) (x / 2 ^ (64 - suc k)) (mod-lt (x * 2 ^ suc k) (lit< tt)) (lt_of_le_of_lt (div-le_self x (2 ^ (64 - suc k))) h)

-- what is shifted left keeps its j low digits, above k zeros
kept : (x j k : ℕ) → x * 2 ^ k % 2 ^ (j + k) ≡ x % 2 ^ j * 2 ^ k
kept x j k =
    mod-pow-add (x * 2 ^ k) j k
    ∙ ap₂ (λ (m n : ℕ). m % 2 ^ j * 2 ^ k + n) (shl-shr x k) (mul-mod_left x (2 ^ k))
    ∙ add-zero (x % 2 ^ j * 2 ^ k)

-- no digit is lost and none meets another, so it is an exclusive or too
abbrev parts : ℕ → ℕ → ℕ → ℕ
parts j k x = bit_xor (x % 2 ^ j * 2 ^ k) (x / 2 ^ j)

as_xor : (x j k : ℕ) → x < 2 ^ (k + j) → bit_or (x * 2 ^ k % 2 ^ (j + k)) (x / 2 ^ j) ≡ parts j k x
as_xor x j k h =
    ap (λ (m : ℕ). bit_or m (x / 2 ^ j)) (kept x j k)
    ∙ or_shifted (x % 2 ^ j) k (x / 2 ^ j) (shr_lt k j h)
    ∙ sym (xor_shifted (x % 2 ^ j) k (x / 2 ^ j) (shr_lt k j h))

parts_xor : (x y j k : ℕ) → parts j k (bit_xor x y) ≡ bit_xor (parts j k x) (parts j k y)
parts_xor x y j k =
    ap₂ (λ (m n : ℕ). bit_xor (m * 2 ^ k) n) (xor_mod x y j) (xor_shr x y j)
    ∙ ap (λ (m : ℕ). bit_xor m (bit_xor (x / 2 ^ j) (y / 2 ^ j))) (sym (xor_scale (x % 2 ^ j) (y % 2 ^ j) k))
    ∙ interchange (x % 2 ^ j * 2 ^ k) (y % 2 ^ j * 2 ^ k) (x / 2 ^ j) (y / 2 ^ j)

-- the rotation goes over exclusive or
pub rotl_xor : (x y k : ℕ) → x < 2 ^ 64 → y < 2 ^ 64 → k < 64 → rotl (bit_xor x y) k ≡ bit_xor (rotl x k) (rotl y k)
unfolding rotl
rotl_xor x y zero hx hy hk = refl
rotl_xor x y (suc k) hx hy hk =
    let e : 64 - suc k + suc k ≡ 64 = omega arith in
    let f : suc k + (64 - suc k) ≡ 64 = omega arith in
    let turn : (z : ℕ) → z < 2 ^ 64 → bit_or (z * 2 ^ suc k % 2 ^ 64) (z / 2 ^ (64 - suc k)) ≡ parts (64 - suc k) (suc k) z
    = λ z h.
    subst (λ (n : ℕ). bit_or (z * 2 ^ suc k % 2 ^ n) (z / 2 ^ (64 - suc k)) ≡ parts (64 - suc k) (suc k) z) e
    (as_xor z (64 - suc k) (suc k) (subst (λ (n : ℕ). z < 2 ^ n) (sym f) h)) in
    turn (bit_xor x y) (xor_lt 64 x y hx hy) ∙ parts_xor x y (64 - suc k) (suc k) ∙ sym (ap₂ bit_xor (turn x hx) (turn y hy))
