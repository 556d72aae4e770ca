-- The questions on one plan, and their numbers: 5 and 9 are the plan's, 10 is the chute's and comes after them. With 9 each answer tells the place at which
-- the plan is malformed. Each is set out by the cases of what reading finds.
use Rattle.std.specs.Prelude.{ℕ, zero, suc, List, Bool, cond, ◌&&◌, ltb, leb, length, get_or, Result, Ok, Err}
use Rattle.answers.specs.Numbers.{done, no_such_chute}
use Rattle.answers.specs.Breaches.{no_place}
use Rattle.answers.specs.Places.{plan_refusal_number, plan_refusal_place}
use Rattle.answers.specs.declared.PlanRefusal.{PlanRefusal}
use Rattle.plan_read.specs.Plan.{Plan, rows, refused, no_row, row_at, plan_of}
use Rattle.plan_read.specs.declared.Row.{Row}
use Rattle.plan.specs.declared.PlanSummary.{PlanSummary}
use Rattle.plan.specs.declared.Lookup.{Lookup}

-- reading: 0 and the number of rows, or the plan's refusal, no rows and the place
abbrev pub summary : Plan → PlanSummary
summary (rows l) = record { number = done; rows = length l; place = no_place }
summary (refused n place) = record { number = n; rows = 0; place = place }

unfoldable pub summary_of : List ℕ → PlanSummary
summary_of s = summary (plan_of s)

-- the same from the code's answer
abbrev pub summary_from : Result ℕ PlanRefusal → PlanSummary
summary_from (Ok count) = record { number = done; rows = count; place = no_place }
summary_from (Err e) = record { number = plan_refusal_number e; rows = 0; place = plan_refusal_place e }

-- chutes count from 1 to this plan's number of rows
abbrev pub has_chute : ℕ → ℕ → Bool
has_chute count chute = leb 1 chute && leb chute count

pub record ChuteRow : Type 0 where
  pub number : ℕ
  pub row : Row
  pub place : ℕ

-- the row of a chute: 0 and the row, or the plan's refusal and the place, or 10 where the plan has no such chute; and then a row that is all 0
abbrev pub row_found : Row → ChuteRow
row_found r = record { number = done; row = r; place = no_place }

abbrev pub no_chute_row : ℕ → ℕ → ChuteRow
no_chute_row n place = record { number = n; row = no_row; place = place }

abbrev pub chute_row : ℕ → Plan → ChuteRow
chute_row chute (rows l) = cond (has_chute (length l) chute) (row_found (row_at chute l)) (no_chute_row no_such_chute no_place)
chute_row chute (refused n place) = no_chute_row n place

unfoldable pub chute_row_of : List ℕ → ℕ → ChuteRow
chute_row_of s chute = chute_row chute (plan_of s)

-- the same from the code's answer
abbrev pub chute_row_from : Result Row PlanRefusal → ChuteRow
chute_row_from (Ok r) = row_found r
chute_row_from (Err e) = no_chute_row (plan_refusal_number e) (plan_refusal_place e)

-- the destination of a chute: that of its row, and 0 on a refusal
abbrev pub destination_of : ChuteRow → Lookup
destination_of r = record { number = r.number; destination = r.row.destination; place = r.place }

abbrev pub found_destination : ℕ → Lookup
found_destination d = record { number = done; destination = d; place = no_place }

abbrev pub no_destination : ℕ → ℕ → Lookup
no_destination n place = record { number = n; destination = 0; place = place }

unfoldable pub lookup_of : List ℕ → ℕ → Lookup
lookup_of s chute = destination_of (chute_row_of s chute)

-- the same from the code's answer
abbrev pub lookup_from : Result ℕ PlanRefusal → Lookup
lookup_from (Ok d) = found_destination d
lookup_from (Err e) = no_destination (plan_refusal_number e) (plan_refusal_place e)

-- the same in a list of destinations
abbrev pub lookup_in : List ℕ → ℕ → Lookup
lookup_in l zero = no_destination no_such_chute no_place
lookup_in l (suc c) = cond (ltb c (length l)) (found_destination (get_or l c 0)) (no_destination no_such_chute no_place)
