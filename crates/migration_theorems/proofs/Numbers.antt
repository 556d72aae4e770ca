-- Numbers by the two rules: what the present rule reads the old one reads alike, and whatever the old rule reads takes at least as many bytes as it takes
-- written, over the number of groups.
use mathlib.Core.Path.{◌≡◌, refl, sym, ap, ◌∙◌}
use mathlib.Core.List.{List, [], ◌∷◌}
use mathlib.Core.Bool.{Bool, true, false, cond}
use Prim.Native.Nat.{ℕ, zero, suc, ◌+◌, ◌*◌, ◌/◌, ◌%◌, ◌≤◌}
use native.Mathlib.Omega.{arith}
use lib.ListN.{length}
use lib.Dec.{ltb}
use borrow.Author.Tests.{ltb-true}
use Rattle.leb128.specs.Number.{Parsed, value, bad, next_group, number}
use Rattle.leb128_write.specs.Written.{written_groups}
use Rattle.leb128_write.proofs.Laws.{groups_last, groups_count}
use Rattle.old_number.specs.OldNumber.{old_groups, old_number}
use Rattle.old_number.specs.Laws.{as_old, as_old_lem}

pub read_alike : (at : ℕ) (s : List ℕ) (v next : ℕ) (rest : List ℕ) → number at s ≡ value v next rest → old_number at s ≡ value v next rest
read_alike at s v next rest e = sym (as_old_lem true 2 at s) ∙ ap (as_old at s) e

abbrev pub Fewest : ℕ → ℕ → Parsed → Type 0
Fewest more at (value v n rest) = at + length (written_groups more v) ≤ n
Fewest more at (bad place) = Unit

module _ (at b : ℕ) (s : List ℕ) where
  fewest_last : (more : ℕ) → ltb b 128 ≡ true → Fewest more at (value b (at + 1) s)
  fewest_last more l = omega (arith, ap length (groups_last more b (ltb-true _ _ l)))

  fewest_next : (more : ℕ) (p : Parsed) → Fewest more (at + 1) p → Fewest (suc more) at (next_group (b % 128) p)
  unfolding written_groups
  fewest_next more (value v n rest) u = fewer (b % 128 + 128 * v) (ltb (b % 128 + 128 * v) 128) (omega arith)
    where
      fewer : (w : ℕ) (t : Bool) → w / 128 ≡ v → at + length (cond t (w ∷ []) ((128 + w % 128) ∷ written_groups more (w / 128))) ≤ n
      fewer w true q = omega (arith, u, groups_count more v)
      fewer w false q = rw q (omega (arith, u))
  fewest_next more (bad place) u = tt

pub fewest : (more at : ℕ) (s : List ℕ) → Fewest more at (old_groups more at s)
unfolding old_groups
fewest more at [] = tt
fewest zero at (b ∷ s) = go (ltb b 128) refl
  where
    go : (t : Bool) → ltb b 128 ≡ t → Fewest zero at (cond t (value b (at + 1) s) (bad at))
    go true l = fewest_last at b s zero l
    go false l = tt
fewest (suc more) at (b ∷ s) = go (ltb b 128) refl (fewest more (at + 1) s)
  where
    go : (t : Bool) → ltb b 128 ≡ t → Fewest more (at + 1) (old_groups more (at + 1) s)
        → Fewest (suc more) at (cond t (value b (at + 1) s) (next_group (b % 128) (old_groups more (at + 1) s)))
    go true l u = fewest_last at b s (suc more) l
    go false l u = fewest_next at b s more (old_groups more (at + 1) s) u
