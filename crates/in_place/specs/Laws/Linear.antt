-- θ, ρ and π go over exclusive or, lane by lane.
use Rattle.std.specs.Prelude.{◌≡◌, refl, Bool, true, false, cond, ◌&&◌, List, ℕ, zero, suc, ◌+◌, ◌*◌, ◌/◌, ◌%◌, ◌^◌, ◌<◌, eqb, get_or}
use Rattle.std.proofs.Math.Path.{sym, ap}
use Rattle.std.proofs.Common.{ap₂, ◌∙◌, zero-add, mod-lt, arith}
use Rattle.std.specs.Int.Bits.{bit_xor}
use Rattle.std.proofs.lemmas.Nat.{xor_lt}
use Rattle.fips202.specs.Fips202.{table_from, lane, rotl, theta_c, theta_d, theta, walk, offset, rho, pi}
use Rattle.fips202.specs.Laws.Xor.{interchange}
use Rattle.fips202.specs.Laws.Lanes.{Bounded, same_table, table_at, table_bounded}
use Rattle.in_place.specs.Laws.Rotation.{rotl_xor, rotl_lt}

-- ---- two states, lane by lane

unfoldable pub mixed : List ℕ → List ℕ → List ℕ
mixed a m = table_from 25 0 (λ i. bit_xor (get_or a i 0) (get_or m i 0))

of_tables : (f g : ℕ → ℕ) → mixed (table_from 25 0 f) (table_from 25 0 g) ≡ table_from 25 0 (λ i. bit_xor (f i) (g i))
unfolding mixed
of_tables f g = refl

-- s is the sum of p and q; a sum of two is that of what they are sums of
record Sum (s p q : ℕ) : Type 0 where
  is : s ≡ bit_xor p q

two : {s t p q u v : ℕ} → Sum s p q → Sum t u v → Sum (bit_xor s t) (bit_xor p u) (bit_xor q v)
two {s} {t} {p} {q} {u} {v} e f = record { is = ap₂ bit_xor e.is f.is ∙ interchange p q u v }

module _ (a m : List ℕ) where
  lanes : (x y : ℕ) → Sum (lane (mixed a m) x y) (lane a x y) (lane m x y)
  unfolding mixed
  lanes x y =
      record {
        is =
            table_at 25 0 (5 * (y % 5) + x % 5) (λ i. bit_xor (get_or a i 0) (get_or m i 0)) (omega arith)
            ∙ ap (λ (i : ℕ). bit_xor (get_or a i 0) (get_or m i 0)) (zero-add (5 * (y % 5) + x % 5));
      }

  pub pi_mixed : pi (mixed a m) ≡ mixed (pi a) (pi m)
  unfolding pi
  pi_mixed =
      same_table 25 0 _ _ (λ i. (lanes (i % 5 + 3 * (i / 5)) (i % 5)).is)
      ∙ sym (of_tables (λ i. lane a (i % 5 + 3 * (i / 5)) (i % 5)) (λ i. lane m (i % 5 + 3 * (i / 5)) (i % 5)))

cond_lt : (b : Bool) (u v : ℕ) → u < 64 → v < 64 → cond b u v < 64
cond_lt true u v hu hv = hu
cond_lt false u v hu hv = hv

walk_lt : (n t u v x y : ℕ) → walk n t u v x y < 64
walk_lt zero t u v x y = omega arith
walk_lt (suc n) t u v x y =
    cond_lt (eqb u x && eqb v y) ((t + 1) * (t + 2) / 2 % 64) (walk n (suc t) v ((2 * u + 3 * v) % 5) x y)
    (mod-lt ((t + 1) * (t + 2) / 2) (omega arith)) (walk_lt n (suc t) v ((2 * u + 3 * v) % 5) x y)

column_lt : (a : List ℕ) → Bounded a → (x : ℕ) → theta_c a x < 2 ^ 64
column_lt a h x =
    let l : (y : ℕ) → lane a x y < 2 ^ 64 = λ y. h (5 * (y % 5) + x % 5) in
    xor_lt 64 _ _ (xor_lt 64 _ _ (xor_lt 64 _ _ (xor_lt 64 _ _ (l 0) (l 1)) (l 2)) (l 3)) (l 4)

-- θ keeps lanes in bounds
beside_lt : (a : List ℕ) → Bounded a → (x : ℕ) → theta_d a x < 2 ^ 64
beside_lt a h x = xor_lt 64 _ _ (column_lt a h (x + 4)) (rotl_lt _ 1 (column_lt a h (x + 1)))

pub theta_bounded : (a : List ℕ) → Bounded a → Bounded (theta a)
unfolding theta
theta_bounded a h =
    table_bounded 25 0 (λ i. bit_xor (lane a (i % 5) (i / 5)) (theta_d a (i % 5))) (λ i. xor_lt 64 _ _ (h _) (beside_lt a h (i % 5)))

module _ (a m : List ℕ) (ha : Bounded a) (hm : Bounded m) where
  pub rho_mixed : rho (mixed a m) ≡ mixed (rho a) (rho m)
  unfolding rho
  rho_mixed =
      same_table 25 0 _ _
      (λ i.
      ap (λ (v : ℕ). rotl v (offset (i % 5) (i / 5))) (lanes a m (i % 5) (i / 5)).is
      ∙ rotl_xor (lane a (i % 5) (i / 5)) (lane m (i % 5) (i / 5)) (offset (i % 5) (i / 5)) (ha _) (hm _) (walk_lt 24 0 1 0 (i % 5) (i / 5)))
      ∙ sym
      (of_tables (λ i. rotl (lane a (i % 5) (i / 5)) (offset (i % 5) (i / 5))) (λ i. rotl (lane m (i % 5) (i / 5)) (offset (i % 5) (i / 5))))

  column : (x : ℕ) → Sum (theta_c (mixed a m) x) (theta_c a x) (theta_c m x)
  column x = two (two (two (two (lanes a m x 0) (lanes a m x 1)) (lanes a m x 2)) (lanes a m x 3)) (lanes a m x 4)

  beside : (x : ℕ) → Sum (theta_d (mixed a m) x) (theta_d a x) (theta_d m x)
  beside x =
      two (column (x + 4))
      (record {
        is =
            ap (λ (v : ℕ). rotl v 1) (column (x + 1)).is
            ∙ rotl_xor (theta_c a (x + 1)) (theta_c m (x + 1)) 1 (column_lt a ha (x + 1)) (column_lt m hm (x + 1)) (omega arith);
      })

  pub theta_mixed : theta (mixed a m) ≡ mixed (theta a) (theta m)
  unfolding theta
  theta_mixed =
      same_table 25 0 _ _ (λ i. (two (lanes a m (i % 5) (i / 5)) (beside (i % 5))).is)
      ∙ sym (of_tables (λ i. bit_xor (lane a (i % 5) (i / 5)) (theta_d a (i % 5))) (λ i. bit_xor (lane m (i % 5) (i / 5)) (theta_d m (i % 5))))
