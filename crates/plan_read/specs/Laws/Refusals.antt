-- A plan that is refused has a number that is not 0, and the answer tells its number and its place.
use mathlib.Core.Path.{◌≡◌, refl}
use mathlib.Core.List.{List, [], ◌∷◌}
use Rattle.std.specs.Prelude.{Bool, true, false, cond, length, ltb, leb}
use Prim.Native.Nat.{ℕ, zero, suc, ◌≤◌}
use native.Mathlib.Omega.{arith}
use Rattle.answers.specs.Numbers.{input_too_long, malformed_plan}
use Rattle.answers.specs.Places.{plan_refusal_number, plan_refusal_place, plan_refusal_of}
use Rattle.leb128.specs.Number.{Parsed, value, bad}
use Rattle.plan_read.specs.Limits.{max_plan, max_rows}
use Rattle.plan_read.specs.Plan.{Plan, rows, refused, malformed, cons_row, after_number, plan_number, row, rows_by, plan_in_by, plan_by, plan_of}
use Rattle.plan_read.specs.declared.Row.{Row}

abbrev pub Numbered : Plan → Type 0
Numbered (rows l) = Unit
Numbered (refused n place) = 1 ≤ n

-- the answer for a refused plan has its number and its place
abbrev pub Told : Plan → Type 0
Told (rows l) = Unit
Told (refused n place) = (plan_refusal_number (plan_refusal_of n place) ≡ n) × (plan_refusal_place (plan_refusal_of n place) ≡ place)

-- what holds of the refusal of a malformed plan, at every place, and of one that is too long
abbrev Refused : (ℕ → ℕ → Type 0) → Plan → Type 0
Refused P (rows l) = Unit
Refused P (refused n place) = P n place

module _ (P : ℕ → ℕ → Type 0) (m : (place : ℕ) → P malformed_plan place) (long : P input_too_long 0) where
  cons_refused : (r : Row) (p : Plan) → Refused P p → Refused P (cons_row r p)
  cons_refused r (rows l) u = tt
  cons_refused r (refused n place) u = u

  after_refused : (p : Parsed) (go : ℕ → ℕ → List ℕ → Plan) → ((v next : ℕ) (rest : List ℕ) → Refused P (go v next rest)) → Refused P (after_number p go)
  after_refused (value v next rest) go u = u v next rest
  after_refused (bad place) go u = m place

  pick_refused : (t : Bool) (p q : Plan) → Refused P p → Refused P q → Refused P (cond t p q)
  pick_refused true p q u w = u
  pick_refused false p q u w = w

  -- whatever reads a number
  module _ (number_at : ℕ → List ℕ → Parsed) where
    rows_refused : (n at : ℕ) (s : List ℕ) → Refused P (rows_by number_at n at s)
    unfolding rows_by
    rows_refused zero at [] = tt
    rows_refused zero at (b ∷ s) = m at
    rows_refused (suc n) at s =
        after_refused (number_at at s) _ (λ v next rest. cons_refused (row v at next) (rows_by number_at n next rest) (rows_refused n next rest))

    plan_refused : (s : List ℕ) → Refused P (plan_by number_at s)
    unfolding plan_by
    plan_refused s =
        pick_refused (ltb max_plan (length s)) (refused input_too_long 0) (plan_in_by number_at s) long
        (after_refused (number_at 0 s) _
        (λ v next rest. pick_refused (leb v max_rows) (rows_by number_at v next rest) (malformed 0) (rows_refused v next rest) (m 0)))

pub numbered_by : (number_at : ℕ → List ℕ → Parsed) (s : List ℕ) → Numbered (plan_by number_at s)
numbered_by number_at s = go (plan_by number_at s) (plan_refused (λ n place. 1 ≤ n) (λ place. omega arith) (omega arith) number_at s)
  where
    go : (p : Plan) → Refused (λ n place. 1 ≤ n) p → Numbered p
    go (rows l) u = tt
    go (refused n place) u = u

abbrev AsTold : ℕ → ℕ → Type 0
AsTold n place = (plan_refusal_number (plan_refusal_of n place) ≡ n) × (plan_refusal_place (plan_refusal_of n place) ≡ place)

pub told_by : (number_at : ℕ → List ℕ → Parsed) (s : List ℕ) → Told (plan_by number_at s)
told_by number_at s = go (plan_by number_at s) (plan_refused AsTold (λ place. (refl, refl)) (refl, refl) number_at s)
  where
    go : (p : Plan) → Refused AsTold p → Told p
    go (rows l) u = tt
    go (refused n place) u = u

pub plan_numbered : (s : List ℕ) → Numbered (plan_of s)
plan_numbered s = numbered_by plan_number s

pub plan_told : (s : List ℕ) → Told (plan_of s)
plan_told s = told_by plan_number s
