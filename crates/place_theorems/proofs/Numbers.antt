-- Where reading a number of a plan fails, at a place of the plan; and that what it comes to does not lead past the plan's end.
use mathlib.Core.Path.{◌≡◌, ap}
use mathlib.Core.Logic.{inl, inr}
use mathlib.Core.List.{List}
use mathlib.Core.Bool.{true}
use Prim.Native.Nat.{ℕ, ◌+◌, ◌-◌, ◌≤◌}
use native.Mathlib.Omega.{arith}
use lib.ListN.{length, drop, length-drop}
use lib.Seq.{get_or-drop}
use Rattle.leb128.specs.Number.{Parsed, value, bad}
use Rattle.leb128.specs.Laws.Reading.{Used, groups_used}
use Rattle.leb128.specs.Laws.Failing.{Fails, groups_fail}
use Rattle.plan_read.specs.Plan.{plan_number}
use Rattle.place_theorems.specs.PlaceTheorems.{NumberFails}

pub number_fails : (s : List ℕ) (at place : ℕ) → at ≤ length s → plan_number at (drop at s) ≡ bad place → NumberFails s at place
number_fails s at place h e = go (plan_number at (drop at s)) (groups_fail true 2 at (drop at s)) e
  where
    go : (p : Parsed) → Fails true 2 at (drop at s) p → p ≡ bad place → NumberFails s at place
    go (value v next rest) f q = let z : ◌≡◌ {A = ℕ} 0 1 = cc in absurd (omega arith)
    go (bad other) (inl f) q =
        let same : other ≡ place = cc in
        inl (omega (arith, length-drop at s, f.0), omega (arith, f.1))
    go (bad other) (inr (inl f)) q =
        let same : other ≡ place = cc in
        let third : at + 2 ≡ place = omega (arith, f.0) in
        inr (inl (omega (arith, f.0), (omega (arith, length-drop at s, f.1.0), (rw (get_or-drop at s 2 0, third) at f.1.1))))
    go (bad other) (inr (inr f)) q =
        let same : other ≡ place = cc in
        let here : at + (other - at) ≡ place = omega (arith, f.after) in
        inr (inr (
          omega (arith, f.after),
          (omega (arith, f.within), (omega (arith, length-drop at s, f.there), (rw (get_or-drop at s (other - at) 0, here) at f.empty))),
        ))

-- what a number at a place comes to leads from there, and not past the end of what stands there
abbrev pub Bounded : ℕ → ℕ → Parsed → Type 0
Bounded at most (value v next rest) = (at + 1 ≤ next) × (next + length rest ≤ most)
Bounded at most (bad place) = (at ≤ place) × (place ≤ most)

pub number_bounded : (at : ℕ) (s : List ℕ) → Bounded at (at + length s) (plan_number at s)
number_bounded at s = go (plan_number at s) (groups_used true 2 at s) (groups_fail true 2 at s)
  where
    go : (p : Parsed) → Used true 2 at s p → Fails true 2 at s p → Bounded at (at + length s) p
    go (value v next rest) u f = (u.some, omega (arith, u.some, u.inside, ap length u.left, length-drop (next - at) s))
    go (bad place) u (inl f) = (omega (arith, f.0), omega (arith, f.0))
    go (bad place) u (inr (inl f)) = (omega (arith, f.0), omega (arith, f.1.0))
    go (bad place) u (inr (inr f)) = (omega (arith, f.after), omega (arith, f.there))

-- the same of all bytes
pub first_bounded : (s : List ℕ) → Bounded 0 (length s) (plan_number 0 s)
first_bounded s = let z : 0 + length s ≡ length s = omega arith in rw z at (number_bounded 0 s)
