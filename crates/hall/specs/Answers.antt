-- The questions on a hall plan, and their numbers: 5 and 9 are the plan's, 10 is the chute's and comes after them. On a refusal all else is 0, but for the
-- place at which the plan is malformed.
use Rattle.std.specs.Prelude.{ℕ, List, length, Result, Ok, Err}
use Rattle.answers.specs.Numbers.{done}
use Rattle.answers.specs.Breaches.{no_place}
use Rattle.answers.specs.Places.{plan_refusal_number, plan_refusal_place}
use Rattle.answers.specs.declared.PlanRefusal.{PlanRefusal}
use Rattle.plan.specs.Answers.{no_destination, lookup_in}
use Rattle.plan.specs.declared.Lookup.{Lookup}
use Rattle.hall_entry.specs.Entries.{destinations}
use Rattle.hall_read.specs.Halls.{HallPlan, halls, refused, halls_of}
use Rattle.hall.specs.declared.HallCounts.{HallCounts}
use Rattle.hall.specs.declared.HallSummary.{HallSummary}

-- reading: 0, the outermost number of entries, and how many entries and chutes there are, which is what a caller has to lend; or the plan's refusal
abbrev pub refused_summary : ℕ → ℕ → HallSummary
refused_summary n place = record { number = n; outer = 0; entries = 0; chutes = 0; place = place }

abbrev pub accepted_summary : ℕ → ℕ → ℕ → HallSummary
accepted_summary outer entries chutes = record { number = done; outer = outer; entries = entries; chutes = chutes; place = no_place }

abbrev pub hall_summary : HallPlan → HallSummary
hall_summary (halls outer l) = accepted_summary outer (length l) (length (destinations l))
hall_summary (refused n place) = refused_summary n place

unfoldable pub hall_summary_of : List ℕ → HallSummary
hall_summary_of s = hall_summary (halls_of s)

-- the same from the code's answer
abbrev pub summary_from : Result HallCounts PlanRefusal → HallSummary
summary_from (Ok h) = accepted_summary h.outer h.entries h.chutes
summary_from (Err e) = refused_summary (plan_refusal_number e) (plan_refusal_place e)

-- the destination of a chute: what the flat list of destinations, in reading order, has; or the plan's refusal
abbrev pub hall_lookup : ℕ → HallPlan → Lookup
hall_lookup chute (halls outer l) = lookup_in (destinations l) chute
hall_lookup chute (refused n place) = no_destination n place

unfoldable pub hall_lookup_of : List ℕ → ℕ → Lookup
hall_lookup_of s chute = hall_lookup chute (halls_of s)
