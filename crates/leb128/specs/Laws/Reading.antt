-- Laws of a number read, over the number of groups: what it takes of the bytes and what it leaves, and that its place plays no part.
use Rattle.std.specs.Prelude.{◌≡◌, refl, List, [], ◌∷◌, Bool, true, false, cond, ◌||◌, length, take, drop, ltb}
use Rattle.std.proofs.Common.{◌∙◌, arith, drop-drop, ltb-true}
use Prim.Native.Nat.{ℕ, zero, suc, ◌+◌, ◌-◌, ◌%◌, ◌≤◌, ◌<◌}
use Rattle.leb128.specs.Number.{Parsed, value, bad, last_group, next_group, groups, limit, max_number}

pub limit_least : (more : ℕ) → 128 ≤ limit more
unfolding limit
limit_least zero = omega arith
limit_least (suc more) = omega (arith, limit_least more)

pub limit_three : limit 2 ≡ max_number + 1
unfolding limit
limit_three = refl

-- of a number v that was read at the place `at`, up to the place n: one byte or more and none past the end, `rest` is what is left, and the bytes taken read
-- as the number alone
pub record UsedBytes (is_first : Bool) (more at : ℕ) (s : List ℕ) (v n : ℕ) (rest : List ℕ) : Type 0 where
  pub some : at + 1 ≤ n
  pub bounded : n ≤ at + (more + 1)
  pub inside : n ≤ at + length s
  pub left : rest ≡ drop (n - at) s
  pub alone : groups is_first more at (take (n - at) s) ≡ value v n []
  pub below : v < limit more

abbrev pub Used : Bool → ℕ → ℕ → List ℕ → Parsed → Type 0
Used is_first more at s (value v n rest) = UsedBytes is_first more at s v n rest
Used is_first more at s (bad place) = Unit

module _ (is_first : Bool) (at b : ℕ) (s : List ℕ) where
  -- one group
  last_read : (more : ℕ) → ltb b 128 ≡ true → (is_first || ltb 0 b) ≡ true → groups is_first more at (b ∷ s) ≡ value b (at + 1) s
  unfolding groups
  last_read zero l e = rw (l, e)
  last_read (suc more) l e = rw (l, e)

module _ (is_first : Bool) (at b : ℕ) (s : List ℕ) (more : ℕ) where
  last_used : (t : Bool) → (is_first || ltb 0 b) ≡ t → ltb b 128 ≡ true → Used is_first more at (b ∷ s) (cond t (value b (at + 1) s) (bad at))
  last_used true e l =
      let small : b < 128 = ltb-true _ _ l in
      let k : at + 1 - at ≡ suc 0 = omega arith in
      record {
        some = omega arith;
        bounded = omega arith;
        inside = omega arith;
        left = rw k;
        alone = rw k (last_read is_first at b [] more l e);
        below = omega (arith, limit_least more);
      }
  last_used false e l = tt

  -- a group, and those after it
  next_used : (p : Parsed) → ltb b 128 ≡ false → Used false more (at + 1) s p → Used is_first (suc more) at (b ∷ s) (next_group (b % 128) p)
  unfolding groups limit
  next_used (value v n rest) e u =
      let k : n - at ≡ suc (n - (at + 1)) = omega (arith, u.some) in
      record {
        some = omega (arith, u.some);
        bounded = omega (arith, u.bounded);
        inside = omega (arith, u.inside);
        left = rw k u.left;
        alone = rw (k, e, u.alone);
        below = omega (arith, u.below);
      }
  next_used (bad place) e u = tt

pub groups_used : (is_first : Bool) (more at : ℕ) (s : List ℕ) → Used is_first more at s (groups is_first more at s)
unfolding groups
groups_used is_first more at [] = tt
groups_used is_first zero at (b ∷ s) = go (ltb b 128) refl
  where
    go : (t : Bool) → ltb b 128 ≡ t → Used is_first zero at (b ∷ s) (cond t (last_group is_first b at s) (bad at))
    go true l = last_used is_first at b s zero (is_first || ltb 0 b) refl l
    go false l = tt
groups_used is_first (suc more) at (b ∷ s) = go (ltb b 128) refl (groups_used false more (at + 1) s)
  where
    later : Parsed
    later = groups false more (at + 1) s

    go : (t : Bool) → ltb b 128 ≡ t → Used false more (at + 1) s later
        → Used is_first (suc more) at (b ∷ s) (cond t (last_group is_first b at s) (next_group (b % 128) later))
    go true l u = last_used is_first at b s (suc more) (is_first || ltb 0 b) refl l
    go false l u = next_used is_first at b s more later l u

-- what is left, at a place of a list
abbrev pub Rest : ℕ → List ℕ → Parsed → Type 0
Rest at s (value v n rest) = (at + 1 ≤ n) × (rest ≡ drop n s)
Rest at s (bad place) = Unit

pub groups_rest : (is_first : Bool) (more at : ℕ) (s : List ℕ) → Rest at s (groups is_first more at (drop at s))
groups_rest is_first more at s = go (groups is_first more at (drop at s)) (groups_used is_first more at (drop at s))
  where
    go : (p : Parsed) → Used is_first more at (drop at s) p → Rest at s p
    go (value v n rest) u = let k : at + (n - at) ≡ n = omega (arith, u.some) in (u.some, u.left ∙ rw (drop-drop, k))
    go (bad place) u = tt

-- the same bytes, k places on
abbrev pub shifted : ℕ → Parsed → Parsed
shifted k (value v next rest) = value v (next + k) rest
shifted k (bad place) = bad (place + k)

module _ (k at b : ℕ) (s : List ℕ) where
  next_shifted : (g : ℕ) (p : Parsed) → next_group g (shifted k p) ≡ shifted k (next_group g p)
  next_shifted g (value v next rest) = refl
  next_shifted g (bad place) = refl

  last_shifted : (t e : Bool) (p q : Parsed) → q ≡ shifted k p
      → cond t (cond e (value b (at + k + 1) s) (bad (at + k))) q ≡ shifted k (cond t (cond e (value b (at + 1) s) (bad at)) p)
  last_shifted true true p q h = let m : at + k + 1 ≡ at + 1 + k = omega arith in rw m
  last_shifted true false p q h = refl
  last_shifted false e p q h = h

pub groups_shifted : (is_first : Bool) (more at k : ℕ) (s : List ℕ) → groups is_first more (at + k) s ≡ shifted k (groups is_first more at s)
unfolding groups
groups_shifted is_first more at k [] = refl
groups_shifted is_first zero at k (b ∷ s) = last_shifted k at b s (ltb b 128) (is_first || ltb 0 b) (bad at) (bad (at + k)) refl
groups_shifted is_first (suc more) at k (b ∷ s) =
    let m : at + k + 1 ≡ at + 1 + k = omega arith in
    let later = groups false more (at + 1) s in
    last_shifted k at b s (ltb b 128) (is_first || ltb 0 b) (next_group (b % 128) later) (next_group (b % 128) (groups false more (at + k + 1) s))
    (rw (m, groups_shifted false more (at + 1) k s) (next_shifted k at b s (b % 128) later))
