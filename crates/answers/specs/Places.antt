-- What an answer on plans is refused for: its number, and the place at which the plan is malformed.
use Rattle.std.specs.Prelude.{ℕ, cond, eqb}
use Rattle.answers.specs.Numbers.{input_too_long, malformed_plan, no_such_chute}
use Rattle.answers.specs.Breaches.{no_place}
use Rattle.answers.specs.declared.PlanRefusal.{PlanRefusal}

abbrev pub plan_refusal_number : PlanRefusal → ℕ
plan_refusal_number PlanRefusal.TooLong = input_too_long
plan_refusal_number (PlanRefusal.Malformed m) = malformed_plan
plan_refusal_number PlanRefusal.NoSuchChute = no_such_chute

abbrev pub plan_refusal_place : PlanRefusal → ℕ
plan_refusal_place PlanRefusal.TooLong = no_place
plan_refusal_place (PlanRefusal.Malformed m) = m.place
plan_refusal_place PlanRefusal.NoSuchChute = no_place

-- what a number and a place of the table stand for
abbrev pub plan_refusal_of : (number place : ℕ) → PlanRefusal
plan_refusal_of k place =
    cond (eqb k input_too_long) PlanRefusal.TooLong
    (cond (eqb k malformed_plan) (PlanRefusal.Malformed (record { place = place })) PlanRefusal.NoSuchChute)
