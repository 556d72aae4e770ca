-- The place of a plan: by the rows that are read, and for each answer by what the plan is.
use mathlib.Core.Path.{◌≡◌, refl}
use mathlib.Core.Logic.{◌⊎◌, inl, inr}
use mathlib.Core.List.{List, [], ◌∷◌}
use mathlib.Core.Bool.{Bool, true, false, cond}
use Prim.Native.Nat.{ℕ, zero, suc, ◌+◌, ◌≤◌}
use native.Mathlib.Omega.{arith}
use lib.ListN.{length}
use lib.Dec.{ltb, leb}
use Rattle.answers.specs.Numbers.{input_too_long, malformed_plan}
use Rattle.answers.specs.Breaches.{no_place}
use Rattle.leb128.specs.Number.{Parsed, value, bad}
use Rattle.plan_read.specs.Limits.{max_plan, max_rows}
use Rattle.plan_read.specs.Plan.{Plan, rows, refused, malformed, cons_row, after_number, plan_number, row, rows_by, plan_in_by, plan_by, plan_of}
use Rattle.plan_read.specs.declared.Row.{Row}
use Rattle.plan.specs.Answers.{summary, summary_of}
use Rattle.place_theorems.specs.PlaceTheorems.{PlaceIn}
use Rattle.place_theorems.proofs.Numbers.{Bounded, number_bounded}

-- a refused plan is too long, with no place, or malformed at a place that is not past the most
abbrev pub RefusedAt : (most n place : ℕ) → Type 0
RefusedAt most n place = ((n ≡ input_too_long) × (place ≡ no_place)) ⊎ ((n ≡ malformed_plan) × (place ≤ most))

pub refused_in : (s : List ℕ) (n place : ℕ) → RefusedAt (length s) n place → PlaceIn s n place
refused_in s n place (inl u) = record { within = omega (arith, u.1); malformed_alone = λ z. u.1 }
refused_in s n place (inr u) = record { within = u.1; malformed_alone = λ z. absurd (z u.0) }

abbrev pub Placed : ℕ → Plan → Type 0
Placed most (rows l) = Unit
Placed most (refused n place) = RefusedAt most n place

malformed_placed : (most place : ℕ) → place ≤ most → Placed most (malformed place)
malformed_placed most place h = inr (refl, h)

cons_placed : (most : ℕ) (r : Row) (p : Plan) → Placed most p → Placed most (cons_row r p)
cons_placed most r (rows l) u = tt
cons_placed most r (refused n place) u = u

wider : (least most : ℕ) (p : Plan) → least ≤ most → Placed least p → Placed most p
wider least most (rows l) h u = tt
wider least most (refused n place) h (inl u) = inl u
wider least most (refused n place) h (inr u) = inr (u.0, omega (arith, u.1))

after_placed : (at most : ℕ) (p : Parsed) (go : ℕ → ℕ → List ℕ → Plan) → Bounded at most p
    → ((v next : ℕ) (rest : List ℕ) → Placed (next + length rest) (go v next rest)) → Placed most (after_number p go)
after_placed at most (value v next rest) go b u = wider (next + length rest) most (go v next rest) b.1 (u v next rest)
after_placed at most (bad place) go b u = malformed_placed most place b.1

either : (most : ℕ) (t : Bool) (p q : Plan) → Placed most p → Placed most q → Placed most (cond t p q)
either most true p q u w = u
either most false p q u w = w

-- whatever reads a number, if what it comes to does not lead past the end
module _ (number_at : ℕ → List ℕ → Parsed) (bounded : (at : ℕ) (s : List ℕ) → Bounded at (at + length s) (number_at at s)) where
  rows_placed : (n at : ℕ) (s : List ℕ) → Placed (at + length s) (rows_by number_at n at s)
  unfolding rows_by
  rows_placed zero at [] = tt
  rows_placed zero at (b ∷ s) = malformed_placed (at + length (b ∷ s)) at (omega arith)
  rows_placed (suc n) at s =
      after_placed at (at + length s) (number_at at s) (λ v next rest. cons_row (row v at next) (rows_by number_at n next rest)) (bounded at s)
      (λ v next rest. cons_placed (next + length rest) (row v at next) (rows_by number_at n next rest) (rows_placed n next rest))

  pub placed_by : (s : List ℕ) → Placed (length s) (plan_by number_at s)
  unfolding plan_by
  placed_by s =
      let z : 0 + length s ≡ length s = omega arith in
      either (length s) (ltb max_plan (length s)) (refused input_too_long no_place) (plan_in_by number_at s) (inl (refl, refl))
      (after_placed 0 (length s) (number_at 0 s) (λ count next rest. cond (leb count max_rows) (rows_by number_at count next rest) (malformed 0))
      (rw z at (bounded 0 s))
      (λ count next rest.
      either (next + length rest) (leb count max_rows) (rows_by number_at count next rest) (malformed 0) (rows_placed count next rest)
      (malformed_placed (next + length rest) 0 (omega arith))))

pub plan_placed : (s : List ℕ) → Placed (length s) (plan_of s)
plan_placed s = placed_by plan_number number_bounded s

pub read_place : (s : List ℕ) → PlaceIn s (summary_of s).number (summary_of s).place
unfolding summary_of
read_place s = go (plan_of s) (plan_placed s)
  where
    go : (p : Plan) → Placed (length s) p → PlaceIn s (summary p).number (summary p).place
    go (rows l) u = record { within = omega arith; malformed_alone = λ z. refl }
    go (refused n place) u = refused_in s n place u
