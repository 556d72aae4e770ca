-- The answers of the row reader and of reading a plan whole: their numbers and their values.
use Rattle.std.specs.Prelude.{ℕ, ◌≡◌, length, unwrap_or, Result, Ok, Err}
use Rattle.answers.specs.Numbers.{done, malformed_plan}
use Rattle.answers.specs.Breaches.{no_place}
use Rattle.answers.specs.Places.{plan_refusal_number, plan_refusal_place}
use Rattle.answers.specs.declared.Malformed.{Malformed}
use Rattle.answers.specs.declared.PlanRefusal.{PlanRefusal}
use Rattle.leb128.specs.Number.{Parsed, value, bad}
use Rattle.plan_read.specs.Plan.{Plan, rows, refused, row, no_row, row_at, row_answer, plan_answer}
use Rattle.plan_read.specs.declared.Row.{Row}
use Rattle.plan_read.specs.declared.PlanRead.{PlanRead}

-- number and values of each answer of the row reader: 0 and the row; or 9, no row, and the place of the failure
pub record RowValues : Type 0 where
  pub number : ℕ
  pub found : Row
  pub place : ℕ

abbrev pub row_values : Result Row Malformed → RowValues
row_values (Ok r) = record { number = done; found = r; place = no_place }
row_values (Err e) = record { number = malformed_plan; found = no_row; place = e.place }

abbrev pub parsed_row : ℕ → Parsed → RowValues
parsed_row at (value v next rest) = record { number = done; found = row v at next; place = no_place }
parsed_row at (bad place) = record { number = malformed_plan; found = no_row; place = place }

-- r answers what was read at a place
pub record ReadsRow (at : ℕ) (p : Parsed) (r : Result Row Malformed) : Type 0 where
  pub answer : r ≡ row_answer at p
  pub values : row_values r ≡ parsed_row at p

-- number and values of each answer of a plan read whole: 0, how many rows, and the row asked for; or 5 or 9, no rows, and the place of the failure
pub record PlanValues : Type 0 where
  pub number : ℕ
  pub count : ℕ
  pub found : Row
  pub place : ℕ

abbrev pub plan_values : Result PlanRead PlanRefusal → PlanValues
plan_values (Ok r) = record { number = done; count = r.count; found = unwrap_or r.row no_row; place = no_place }
plan_values (Err e) = record { number = plan_refusal_number e; count = 0; found = no_row; place = plan_refusal_place e }

abbrev pub parsed_plan : ℕ → Plan → PlanValues
parsed_plan chute (rows l) = record { number = done; count = length l; found = row_at chute l; place = no_place }
parsed_plan chute (refused n place) = record { number = n; count = 0; found = no_row; place = place }

-- r answers what a plan is, with the row of a chute
pub record ReadsPlan (chute : ℕ) (p : Plan) (r : Result PlanRead PlanRefusal) : Type 0 where
  pub answer : r ≡ plan_answer chute p
  pub values : plan_values r ≡ parsed_plan chute p
