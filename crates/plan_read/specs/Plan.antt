-- A plan (docs/RULES.md, 'Chute plan'): the number of rows, at most 4,096, then each row's destination, then nothing more. Reading a plan of
-- more than 65,536 bytes is refused with 5, a malformed one with 9.
use Rattle.std.specs.Prelude.{ℕ, zero, suc, List, [], ◌∷◌, map, cond, ltb, leb, length, get_or, slice_get, Option, None, Result, Ok, Err}
use Rattle.answers.specs.Numbers.{input_too_long, malformed_plan}
use Rattle.answers.specs.Breaches.{too_many_rows, bytes_after, place_of, no_place}
use Rattle.answers.specs.Places.{plan_refusal_of}
use Rattle.answers.specs.declared.Malformed.{Malformed}
use Rattle.answers.specs.declared.PlanRefusal.{PlanRefusal}
use Rattle.leb128.specs.Number.{Parsed, value, bad, number}
use Rattle.plan_read.specs.Limits.{max_plan, max_rows}
use Rattle.plan_read.specs.declared.Row.{Row}
use Rattle.plan_read.specs.declared.PlanRead.{PlanRead}

-- a number of a plan, at a place, be it a flat plan or a hall plan
abbrev pub plan_number : ℕ → List ℕ → Parsed
plan_number at s = number at s

abbrev pub row : ℕ → ℕ → ℕ → Row
row d a e = record { destination = d; start = a; end = e }

-- the row reader's answer at a place
abbrev pub row_answer : ℕ → Parsed → Result Row Malformed
row_answer at (value v next rest) = Ok (row v at next)
row_answer at (bad place) = Err (record { place = place })

-- what a list of bytes is as a plan: its rows; or the refusal and the place at which it is malformed, 0 with refusal 5
pub data Plan : Type 0 where
  rows : List Row → Plan
  refused : ℕ → ℕ → Plan

abbrev pub malformed : ℕ → Plan
malformed place = refused malformed_plan place

abbrev pub cons_row : Row → Plan → Plan
cons_row r (rows l) = rows (r ∷ l)
cons_row r (refused n place) = refused n place

-- reading goes on after a number; a bad one ends it, and the whole plan is refused
abbrev pub after_number : Parsed → (ℕ → ℕ → List ℕ → Plan) → Plan
after_number (value v next rest) go = go v next rest
after_number (bad place) go = malformed place

-- what bytes are as a plan, where `number_at` reads a number at a place
module _ (number_at : ℕ → List ℕ → Parsed) where
  -- n rows at the place `at`, and then nothing more
  unfoldable pub rows_by : ℕ → ℕ → List ℕ → Plan
  rows_by zero at [] = rows []
  rows_by zero at (b ∷ rest) = malformed (place_of (bytes_after at))
  rows_by (suc n) at s = after_number (number_at at s) (λ v next rest. cons_row (row v at next) (rows_by n next rest))

  abbrev pub plan_in_by : List ℕ → Plan
  plan_in_by s = after_number (number_at 0 s) (λ count next rest. cond (leb count max_rows) (rows_by count next rest) (malformed (place_of too_many_rows)))

  unfoldable pub plan_by : List ℕ → Plan
  plan_by s = cond (ltb max_plan (length s)) (refused input_too_long no_place) (plan_in_by s)

-- with the numbers of plans
abbrev pub rows_from : ℕ → ℕ → List ℕ → Plan
rows_from = rows_by plan_number

abbrev pub plan_in : List ℕ → Plan
plan_in = plan_in_by plan_number

abbrev pub plan_of : List ℕ → Plan
plan_of = plan_by plan_number

-- the row of a chute, which count from 1: all 0 where there is none
abbrev pub no_row : Row
no_row = row 0 0 0

abbrev pub row_at : ℕ → List Row → Row
row_at zero l = no_row
row_at (suc c) l = get_or l c no_row

-- the destinations of rows, in order
abbrev pub row_destinations : List Row → List ℕ
row_destinations l = map (λ (r : Row). r.destination) l

-- and the same where it may be missing
abbrev pub row_if : ℕ → List Row → Option Row
row_if zero l = None
row_if (suc c) l = slice_get l c

-- the code's answer of one pass that keeps the row of a chute
abbrev pub plan_answer : ℕ → Plan → Result PlanRead PlanRefusal
plan_answer chute (rows l) = Ok (record { count = length l; row = row_if chute l })
plan_answer chute (refused n place) = Err (plan_refusal_of n place)
