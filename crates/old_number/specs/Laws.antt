-- Laws of a number by the old rule, over the number of groups: what it is by the present rule, what it takes of the bytes and what it leaves.
use Rattle.std.specs.Prelude.{◌≡◌, List, [], ◌∷◌, Bool, length, get_or, drop, eqb}
use Rattle.std.proofs.Math.Path.{refl}
use Rattle.std.proofs.Common.{ap, ◌∙◌, inl, inr}
use Rattle.std.proofs.Math.Bool.{true, false, cond}
use Prim.Native.Nat.{ℕ, zero, suc, ◌+◌, ◌*◌, ◌-◌, ◌%◌, ◌≤◌, ◌<◌}
use native.Mathlib.Omega.{arith}
use Rattle.std.proofs.Math.Dec.{ltb}
use borrow.Author.Tests.{ltb-true, ltb-false, eq-eqb, ne_eqb}
use Rattle.leb128.specs.Number.{Parsed, value, bad, last_group, next_group, groups, limit}
use Rattle.leb128.specs.Laws.Reading.{limit_least}
use Rattle.leb128.specs.Laws.Failing.{Fails, groups_fail}
use Rattle.old_number.specs.OldNumber.{old_groups}

-- what the first k groups make
unfoldable pub low_groups : ℕ → List ℕ → ℕ
low_groups zero s = 0
low_groups (suc k) [] = 0
low_groups (suc k) (b ∷ s) = b % 128 + 128 * low_groups k s

-- whether the byte at an index is there and is 0
pub zero_there : ℕ → List ℕ → Bool
zero_there k [] = false
zero_there zero (b ∷ s) = eqb b 0
zero_there (suc k) (b ∷ s) = zero_there k s

pub zero_there_lem : (k : ℕ) (s : List ℕ) → k < length s → get_or s k 0 ≡ 0 → zero_there k s ≡ true
unfolding zero_there
zero_there_lem k [] h e = absurd (omega arith)
zero_there_lem zero (b ∷ s) h e = eq-eqb _ _ e
zero_there_lem (suc k) (b ∷ s) h e = zero_there_lem k s (omega arith) e

pub none_there : (k : ℕ) (s : List ℕ) → length s ≤ k → zero_there k s ≡ false
unfolding zero_there
none_there k [] h = refl
none_there zero (b ∷ s) h = absurd (omega arith)
none_there (suc k) (b ∷ s) h = none_there k s (omega arith)

pub other_there : (k : ℕ) (s : List ℕ) → 0 < get_or s k 0 → zero_there k s ≡ false
unfolding zero_there
other_there k [] h = refl
other_there zero (b ∷ s) h = let some : b ≡ 0 → ⊥ = λ z. omega arith in ne_eqb _ _ some
other_there (suc k) (b ∷ s) h = other_there k s h

-- a number by the old rule from what the present rule finds: where that fails at a byte of 0, this is a last group that the old rule takes
abbrev pub as_old : ℕ → List ℕ → Parsed → Parsed
as_old at s (value v next rest) = value v next rest
as_old at s (bad place) = cond (zero_there (place - at) s) (value (low_groups (place - at) s) (place + 1) (drop (place + 1 - at) s)) (bad place)

-- the place at which reading fails is not before the number
pub fails_after : (is_first : Bool) (more at : ℕ) (s : List ℕ) (place : ℕ) → Fails is_first more at s (bad place) → at ≤ place
fails_after is_first more at s place (inl f) = omega (arith, f.0)
fails_after is_first more at s place (inr (inl f)) = omega (arith, f.0)
fails_after true more at s place (inr (inr f)) = omega (arith, f.after)
fails_after false more at s place (inr (inr f)) = f.after

module _ (at b : ℕ) (s : List ℕ) where
  -- a group, and those after it
  next_old : (p : Parsed) → ((place : ℕ) → p ≡ bad place → at + 1 ≤ place)
      → as_old at (b ∷ s) (next_group (b % 128) p) ≡ next_group (b % 128) (as_old (at + 1) s p)
  unfolding low_groups zero_there
  next_old (value v next rest) h = refl
  next_old (bad place) h =
      let k : place - at ≡ suc (place - (at + 1)) = omega (arith, h place refl) in
      let d : place + 1 - at ≡ suc (place + 1 - (at + 1)) = omega (arith, h place refl) in
      rw (k, d) (go (zero_there (place - (at + 1)) s))
    where
      go : (t : Bool) → cond t (value (b % 128 + 128 * low_groups (place - (at + 1)) s) (place + 1) (drop (place + 1 - (at + 1)) s)) (bad place)
          ≡ next_group (b % 128) (cond t (value (low_groups (place - (at + 1)) s) (place + 1) (drop (place + 1 - (at + 1)) s)) (bad place))
      go true = refl
      go false = refl

  last_old : (is_first : Bool) → ltb b 128 ≡ true → as_old at (b ∷ s) (last_group is_first b at s) ≡ value b (at + 1) s
  unfolding low_groups zero_there
  last_old true l = refl
  last_old false l = go (ltb 0 b) refl
    where
      go : (t : Bool) → ltb 0 b ≡ t → as_old at (b ∷ s) (cond t (value b (at + 1) s) (bad at)) ≡ value b (at + 1) s
      go true e = refl
      go false e =
          let none : b ≡ 0 = omega (arith, ltb-false 0 b e) in
          let here : at - at ≡ 0 = omega arith in
          let past : at + 1 - at ≡ suc 0 = omega arith in
          rw (here, past, none)

  over_old : ltb b 128 ≡ false → as_old at (b ∷ s) (bad at) ≡ bad at
  unfolding zero_there
  over_old l =
      let some : b ≡ 0 → ⊥ = λ z. omega (arith, ltb-false b 128 l) in
      let here : at - at ≡ 0 = omega arith in
      rw (here, ne_eqb _ _ some)

-- a number by the old rule is that of the present rule, or one with an empty last group
pub as_old_lem : (is_first : Bool) (more at : ℕ) (s : List ℕ) → as_old at s (groups is_first more at s) ≡ old_groups more at s
unfolding groups old_groups zero_there
as_old_lem is_first more at [] = refl
as_old_lem is_first zero at (b ∷ s) = go (ltb b 128) refl
  where
    go : (t : Bool) → ltb b 128 ≡ t → as_old at (b ∷ s) (cond t (last_group is_first b at s) (bad at)) ≡ cond t (value b (at + 1) s) (bad at)
    go true l = last_old at b s is_first l
    go false l = over_old at b s l
as_old_lem is_first (suc more) at (b ∷ s) = go (ltb b 128) refl (as_old_lem false more (at + 1) s)
  where
    later : Parsed
    later = groups false more (at + 1) s

    after : (place : ℕ) → later ≡ bad place → at + 1 ≤ place
    after place e = fails_after false more (at + 1) s place (rw e at (groups_fail false more (at + 1) s))

    go : (t : Bool) → ltb b 128 ≡ t → as_old (at + 1) s later ≡ old_groups more (at + 1) s
        → as_old at (b ∷ s) (cond t (last_group is_first b at s) (next_group (b % 128) later))
        ≡ cond t (value b (at + 1) s) (next_group (b % 128) (old_groups more (at + 1) s))
    go true l ih = last_old at b s is_first l
    go false l ih = next_old at b s later after ∙ ap (next_group (b % 128)) ih

-- of a number v that was read at the place `at`, up to the place n: one byte or more and none past the end, `rest` is what is left, and v fits the groups
pub record OldUsedBytes (more at : ℕ) (s : List ℕ) (v n : ℕ) (rest : List ℕ) : Type 0 where
  pub some : at + 1 ≤ n
  pub inside : n ≤ at + length s
  pub left : rest ≡ drop (n - at) s
  pub below : v < limit more

abbrev pub OldUsed : ℕ → ℕ → List ℕ → Parsed → Type 0
OldUsed more at s (value v n rest) = OldUsedBytes more at s v n rest
OldUsed more at s (bad place) = Unit

last_used : (more at b : ℕ) (s : List ℕ) → ltb b 128 ≡ true → OldUsedBytes more at (b ∷ s) b (at + 1) s
last_used more at b s l =
    let small : b < 128 = ltb-true _ _ l in
    let k : at + 1 - at ≡ suc 0 = omega arith in
    record { some = omega arith; inside = omega arith; left = rw k; below = omega (arith, limit_least more) }

next_used : (more at b : ℕ) (s : List ℕ) (p : Parsed) → OldUsed more (at + 1) s p → OldUsed (suc more) at (b ∷ s) (next_group (b % 128) p)
unfolding limit
next_used more at b s (value v n rest) u =
    let k : n - at ≡ suc (n - (at + 1)) = omega (arith, u.some) in
    record { some = omega (arith, u.some); inside = omega (arith, u.inside); left = rw k u.left; below = omega (arith, u.below) }
next_used more at b s (bad place) u = tt

pub old_used : (more at : ℕ) (s : List ℕ) → OldUsed more at s (old_groups more at s)
unfolding old_groups
old_used more at [] = tt
old_used zero at (b ∷ s) = go (ltb b 128) refl
  where
    go : (t : Bool) → ltb b 128 ≡ t → OldUsed zero at (b ∷ s) (cond t (value b (at + 1) s) (bad at))
    go true l = last_used zero at b s l
    go false l = tt
old_used (suc more) at (b ∷ s) = go (ltb b 128) refl (old_used more (at + 1) s)
  where
    go : (t : Bool) → ltb b 128 ≡ t → OldUsed more (at + 1) s (old_groups more (at + 1) s)
        → OldUsed (suc more) at (b ∷ s) (cond t (value b (at + 1) s) (next_group (b % 128) (old_groups more (at + 1) s)))
    go true l u = last_used (suc more) at b s l
    go false l u = next_used more at b s (old_groups more (at + 1) s) u
