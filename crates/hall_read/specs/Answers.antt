-- The answer of reading a hall plan whole: its number and its values.
use Rattle.std.specs.Prelude.{ℕ, ◌≡◌, length, Result, Ok, Err}
use Rattle.answers.specs.Numbers.{done}
use Rattle.answers.specs.Breaches.{no_place}
use Rattle.answers.specs.Places.{plan_refusal_number, plan_refusal_place, plan_refusal_of}
use Rattle.answers.specs.declared.PlanRefusal.{PlanRefusal}
use Rattle.hall_entry.specs.Entries.{destinations}
use Rattle.hall_read.specs.Halls.{HallPlan, halls, refused}
use Rattle.hall_read.specs.Passing.{chute_at}
use Rattle.hall_read.specs.declared.HallRead.{HallRead}

-- the code's answer of one pass that keeps the destination of a chute
abbrev pub hall_answer : ℕ → HallPlan → Result HallRead PlanRefusal
hall_answer chute (halls outer l) =
    Ok (record { outer = outer; entries = length l; chutes = length (destinations l); found = chute_at chute (destinations l) })
hall_answer chute (refused n place) = Err (plan_refusal_of n place)

-- number and values of each answer: 0, the outermost number, how many entries and chutes, and the destination asked for; or 5 or 9, and the place of the breach
pub record HallValues : Type 0 where
  pub number : ℕ
  pub outer : ℕ
  pub entries : ℕ
  pub chutes : ℕ
  pub found : ℕ
  pub place : ℕ

abbrev pub refused_values : ℕ → ℕ → HallValues
refused_values n place = record { number = n; outer = 0; entries = 0; chutes = 0; found = 0; place = place }

abbrev pub hall_values : Result HallRead PlanRefusal → HallValues
hall_values (Ok h) = record { number = done; outer = h.outer; entries = h.entries; chutes = h.chutes; found = h.found; place = no_place }
hall_values (Err e) = refused_values (plan_refusal_number e) (plan_refusal_place e)

abbrev pub parsed_halls : ℕ → HallPlan → HallValues
parsed_halls chute (halls outer l) =
    record { number = done; outer = outer; entries = length l; chutes = length (destinations l); found = chute_at chute (destinations l); place = no_place }
parsed_halls chute (refused n place) = refused_values n place

-- r answers what a hall plan is, with the destination of a chute
pub record ReadsHalls (chute : ℕ) (p : HallPlan) (r : Result HallRead PlanRefusal) : Type 0 where
  pub answer : r ≡ hall_answer chute p
  pub values : hall_values r ≡ parsed_halls chute p
