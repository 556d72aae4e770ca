-- Exclusive or of lanes, and the complement, which is exclusive or with a lane of ones.
use Rattle.std.specs.Prelude.{◌≡◌, refl, ℕ, zero, suc, ◌+◌, ◌-◌, ◌*◌, ◌/◌, ◌%◌, ◌^◌, ◌<◌, min, max}
use Rattle.std.proofs.Common.{sym, ap, ap₂, ◌∙◌, add-zero, mod-eq_of_lt, pow-suc, arith, pow_pos}
use Rattle.std.proofs.Math.Arith.{bin_ind}
use Rattle.std.specs.Int.Bits.{bit_xor, bit_and, bit_or, differ, xor_step, and_step, or_step, xor_self, xor_zero_r, xor_add_and}
use Rattle.std.proofs.lemmas.Nat.{xor_shr, xor_mod, xor_comm, xor_block, and_mask, or_lt}

-- ---- exclusive or is associative

differ_assoc : (x y z : ℕ) → x < 2 → y < 2 → z < 2 → differ (bit_xor x y) z ≡ differ x (bit_xor y z)
differ_assoc zero zero z hx hy hz = refl
differ_assoc zero (suc zero) zero hx hy hz = refl
differ_assoc zero (suc zero) (suc zero) hx hy hz = refl
differ_assoc zero (suc zero) (suc (suc z)) hx hy hz = absurd (omega arith)
differ_assoc zero (suc (suc y)) z hx hy hz = absurd (omega arith)
differ_assoc (suc zero) zero zero hx hy hz = refl
differ_assoc (suc zero) zero (suc zero) hx hy hz = refl
differ_assoc (suc zero) zero (suc (suc z)) hx hy hz = absurd (omega arith)
differ_assoc (suc zero) (suc zero) zero hx hy hz = refl
differ_assoc (suc zero) (suc zero) (suc zero) hx hy hz = refl
differ_assoc (suc zero) (suc zero) (suc (suc z)) hx hy hz = absurd (omega arith)
differ_assoc (suc zero) (suc (suc y)) z hx hy hz = absurd (omega arith)
differ_assoc (suc (suc x)) y z hx hy hz = absurd (omega arith)

pub xor_assoc : (a b c : ℕ) → bit_xor (bit_xor a b) c ≡ bit_xor a (bit_xor b c)
xor_assoc a =
    bin_ind (λ (n : ℕ). (b c : ℕ) → bit_xor (bit_xor n b) c ≡ bit_xor n (bit_xor b c))
    (λ b c. refl)
    (λ n ih b c.
    xor_step (bit_xor n b) c
    ∙ ap₂ (λ (x y : ℕ). x * 2 + y)
    (ap (λ (x : ℕ). bit_xor x (c / 2)) (xor_shr n b 1) ∙ ih (b / 2) (c / 2) ∙ ap (bit_xor (n / 2)) (sym (xor_shr b c 1)))
    (ap (λ (x : ℕ). differ x (c % 2)) (xor_mod n b 1)
    ∙ differ_assoc (n % 2) (b % 2) (c % 2) (omega arith) (omega arith) (omega arith)
    ∙ ap (differ (n % 2)) (sym (xor_mod b c 1)))
    ∙ sym (xor_step n (bit_xor b c)))
    a

-- a shift goes over exclusive or
pub xor_scale : (a b k : ℕ) → bit_xor (a * 2 ^ k) (b * 2 ^ k) ≡ bit_xor a b * 2 ^ k
xor_scale a b k =
    ap₂ bit_xor (sym (add-zero (a * 2 ^ k))) (sym (add-zero (b * 2 ^ k)))
    ∙ xor_block k a b 0 0 (omega (arith, pow_pos k)) (omega (arith, pow_pos k))
    ∙ add-zero (bit_xor a b * 2 ^ k)

pub xor_swap : (x y z : ℕ) → bit_xor (bit_xor x y) z ≡ bit_xor (bit_xor x z) y
xor_swap x y z = xor_assoc x y z ∙ ap (bit_xor x) (xor_comm y z) ∙ sym (xor_assoc x z y)

pub interchange : (a b c d : ℕ) → bit_xor (bit_xor a b) (bit_xor c d) ≡ bit_xor (bit_xor a c) (bit_xor b d)
interchange a b c d =
    sym (xor_assoc (bit_xor a b) c d) ∙ ap (λ (x : ℕ). bit_xor x d) (xor_swap a b c) ∙ xor_assoc (bit_xor a c) b d

pub twice : (x w : ℕ) → bit_xor (bit_xor x w) w ≡ x
twice x w = xor_assoc x w w ∙ ap (bit_xor x) (xor_self w) ∙ xor_zero_r x

-- ---- the complement

pub complement : (x : ℕ) → x < 2 ^ 64 → 2 ^ 64 - 1 - x ≡ bit_xor x (2 ^ 64 - 1)
complement x h = omega (arith, xor_add_and x (2 ^ 64 - 1), and_mask x 64 ∙ mod-eq_of_lt h)

bit : (u v : ℕ) → u < 2 → v < 2 → min (1 - u) (1 - v) ≡ 1 - max u v
bit zero zero hu hv = refl
bit zero (suc zero) hu hv = refl
bit zero (suc (suc v)) hu hv = absurd (omega arith)
bit (suc zero) zero hu hv = refl
bit (suc zero) (suc zero) hu hv = refl
bit (suc zero) (suc (suc v)) hu hv = absurd (omega arith)
bit (suc (suc u)) v hu hv = absurd (omega arith)

-- De Morgan's law, in k digits
last : (n o m : ℕ) → o < n → m < 2 → (n - 1 - o) * 2 + (1 - m) ≡ n * 2 - 1 - (o * 2 + m)
last n o m ho hm = omega arith

both : (k x y : ℕ) → x < 2 ^ k → y < 2 ^ k → bit_and (2 ^ k - 1 - x) (2 ^ k - 1 - y) ≡ 2 ^ k - 1 - bit_or x y
both zero x y hx hy =
    let e : x ≡ 0 = omega arith in
    let f : y ≡ 0 = omega arith in
    rw (e, f)
both (suc k) x y hx hy =
    let p : 2 ^ suc k ≡ 2 ^ k * 2 = pow-suc 2 k in
    let half : (z : ℕ) → z < 2 ^ suc k → (2 ^ suc k - 1 - z) / 2 ≡ 2 ^ k - 1 - z / 2 = λ z h. omega arith in
    let odd : (z : ℕ) → z < 2 ^ suc k → (2 ^ suc k - 1 - z) % 2 ≡ 1 - z % 2 = λ z h. omega arith in
    let hm : max (x % 2) (y % 2) < 2 = omega arith in
    and_step (2 ^ suc k - 1 - x) (2 ^ suc k - 1 - y)
    ∙ ap₂ (λ (m n : ℕ). m * 2 + n)
    (ap₂ bit_and (half x hx) (half y hy) ∙ both k (x / 2) (y / 2) (omega arith) (omega arith))
    (ap₂ min (odd x hx) (odd y hy) ∙ bit (x % 2) (y % 2) (omega arith) (omega arith))
    ∙ last (2 ^ k) (bit_or (x / 2) (y / 2)) (max (x % 2) (y % 2)) (or_lt k (x / 2) (y / 2) (omega arith) (omega arith)) hm
    ∙ sym (ap₂ (λ (m n : ℕ). m - 1 - n) p (or_step x y))

pub nor : (x y : ℕ) → x < 2 ^ 64 → y < 2 ^ 64 → bit_and (2 ^ 64 - 1 - x) (bit_xor y (2 ^ 64 - 1)) ≡ bit_xor (bit_or x y) (2 ^ 64 - 1)
nor x y hx hy =
    ap (bit_and (2 ^ 64 - 1 - x)) (sym (complement y hy)) ∙ both 64 x y hx hy ∙ complement (bit_or x y) (or_lt 64 x y hx hy)
