-- Where reading a number fails, over the number of groups: at the first byte that is missing, at the last byte that it may have, or at a last group of 0.
use Rattle.std.specs.Prelude.{◌≡◌, refl, ◌⊎◌, List, [], ◌∷◌, Bool, true, false, cond, ℕ, zero, suc, ◌+◌, ◌-◌, ◌%◌, ◌≤◌, ◌<◌, length, get_or, ltb}
use Rattle.std.proofs.Common.{inl, inr, arith, ltb-false}
use Rattle.leb128.specs.Number.{Parsed, value, bad, last_group, next_group, groups}

-- a last group of 0 at a place of s, which begins at `at`: not before `least`, and not past the last group that a number of at most `more` + 1 may have
pub record EmptyGroup (least more at : ℕ) (s : List ℕ) (place : ℕ) : Type 0 where
  pub after : least ≤ place
  pub within : place ≤ at + more
  pub there : place < at + length s
  pub empty : get_or s (place - at) 0 ≡ 0

-- where a group of 0 may first be one too many: a number's first group may be 0
abbrev pub least_empty : Bool → ℕ → ℕ
least_empty is_first at = cond is_first (at + 1) at

-- of a number of at most `more` + 1 groups at the place `at`, where s stands
abbrev pub Fails : Bool → ℕ → ℕ → List ℕ → Parsed → Type 0
Fails is_first more at s (value v next rest) = Unit
Fails is_first more at s (bad place) =
    ((place ≡ at + length s) × (place ≤ at + more))
    ⊎ (((place ≡ at + more) × ((place < at + length s) × (128 ≤ get_or s more 0))) ⊎ EmptyGroup (least_empty is_first at) more at s place)

fails_last : (is_first : Bool) (more at b : ℕ) (s : List ℕ) → Fails is_first more at (b ∷ s) (last_group is_first b at s)
fails_last true more at b s = tt
fails_last false more at b s = go (ltb 0 b) refl
  where
    go : (t : Bool) → ltb 0 b ≡ t → Fails false more at (b ∷ s) (cond t (value b (at + 1) s) (bad at))
    go true e = tt
    go false e =
        let here : at - at ≡ 0 = omega arith in
        let none : b ≡ 0 = omega (arith, ltb-false 0 b e) in
        inr (inr (record { after = omega arith; within = omega arith; there = omega arith; empty = rw (here, none) }))

least_next : (is_first : Bool) (at place : ℕ) → at + 1 ≤ place → least_empty is_first at ≤ place
least_next true at place h = h
least_next false at place h = omega arith

fails_next : (is_first : Bool) (more at b g : ℕ) (s : List ℕ) (p : Parsed) → Fails false more (at + 1) s p
    → Fails is_first (suc more) at (b ∷ s) (next_group g p)
fails_next is_first more at b g s (value v next rest) f = tt
fails_next is_first more at b g s (bad place) (inl f) = inl (omega (arith, f.0), omega (arith, f.1))
fails_next is_first more at b g s (bad place) (inr (inl f)) = inr (inl (omega (arith, f.0), (omega (arith, f.1.0), f.1.1)))
fails_next is_first more at b g s (bad place) (inr (inr f)) =
    let past : place - at ≡ suc (place - (at + 1)) = omega (arith, f.after) in
    inr (inr (record {
      after = least_next is_first at place f.after;
      within = omega (arith, f.within);
      there = omega (arith, f.there);
      empty = rw past f.empty;
    }))

pub groups_fail : (is_first : Bool) (more at : ℕ) (s : List ℕ) → Fails is_first more at s (groups is_first more at s)
unfolding groups
groups_fail is_first more at [] = inl (omega arith, omega arith)
groups_fail is_first zero at (b ∷ s) = go (ltb b 128) refl
  where
    go : (t : Bool) → ltb b 128 ≡ t → Fails is_first zero at (b ∷ s) (cond t (last_group is_first b at s) (bad at))
    go true e = fails_last is_first zero at b s
    go false e = inr (inl (omega arith, (omega arith, ltb-false b 128 e)))
groups_fail is_first (suc more) at (b ∷ s) = go (ltb b 128) (groups false more (at + 1) s) (groups_fail false more (at + 1) s)
  where
    go : (t : Bool) (p : Parsed) → Fails false more (at + 1) s p
        → Fails is_first (suc more) at (b ∷ s) (cond t (last_group is_first b at s) (next_group (b % 128) p))
    go true p f = fails_last is_first (suc more) at b s
    go false p f = fails_next is_first more at b (b % 128) s p f
