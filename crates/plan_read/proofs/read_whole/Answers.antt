-- A long plan is refused before it is read. Else the plan hangs on its first number, by the definition's own cases: too many rows, the rows that
-- `read_rows` reads, or no number.
use Rattle.std.proofs.Common.{rules, ◌≡◌, refl, sym, ap, ◌∙◌, true, ℕ, zero, suc, ◌≤◌, ◌<◌, List, length, arith, Result, Ok, Err}
use borrow.Author.Tests.{le-leb, lt-leb}
use Rattle.std.proofs.lemmas.Option.{unwrap_or-slice_get}
use Rattle.answers.specs.declared.Malformed.{Malformed}
use Rattle.answers.specs.declared.PlanRefusal.{PlanRefusal}
use Rattle.leb128.specs.Laws.Reading.{groups_rest}
use Rattle.leb128.specs.Answers.{number_answer}
use Rattle.leb128.specs.declared.Number.{Number}
use Rattle.plan_read.specs.Limits.{max_plan, max_rows}
use Rattle.plan_read.specs.Plan.{Plan, rows, refused, plan_number, plan_of, plan_answer, no_row}
use Rattle.plan_read.specs.Answers.{plan_values, parsed_plan, ReadsPlan}
use Rattle.plan_read.specs.declared.PlanRead.{PlanRead}
use Rattle.plan_read.specs.Laws.Reading.{rows_after, whole_long, whole_after}
use Rattle.plan_read.specs.Laws.Refusals.{Told, plan_told}
use Rattle.plan_read.proofs.read_whole.Goals as goal

-- the values follow from the answer
values_of : (chute : ℕ) (p : Plan) → Told p → plan_values (plan_answer chute p) ≡ parsed_plan chute p
values_of zero (rows l) t = refl
values_of (suc c) (rows l) t = rw (unwrap_or-slice_get l c no_row)
values_of chute (refused n place) t = rw (t.0, t.1)

answers_as : (chute : ℕ) (s : List ℕ) (r : Result PlanRead PlanRefusal) → r ≡ plan_answer chute (plan_of s) → ReadsPlan chute (plan_of s) r
answers_as chute s r e = record { answer = e; values = ap plan_values e ∙ values_of chute (plan_of s) (plan_told s) }

-- what the plan is after its first number n
after : (s : List ℕ) (chute : ℕ) (n : Result Number Malformed) → n ≡ number_answer (plan_number 0 s) → length s ≤ max_plan
    → rows_after plan_number s (plan_answer chute) n ≡ plan_answer chute (plan_of s)
after s chute n e h = ap (rows_after plan_number s (plan_answer chute)) e ∙ whole_after plan_number s (plan_answer chute) (groups_rest true 2 0 s) h

pub returns-then-plan-gt-MAX_PLAN : goal.returns-then-plan-gt-MAX_PLAN
returns-then-plan-gt-MAX_PLAN c = answers_as _ _ _ (sym (whole_long plan_number _ (plan_answer _) c.if-plan-gt-MAX_PLAN.true))

pub returns-in_err-rows : goal.returns-in_err-rows
returns-in_err-rows c =
    let e : c.number_at.result ≡ Err c.in_err-rows.field-0.0 = search rules in
    let f = after c.args.plan.now c.args.chute _ (sym e ∙ c.number_at.ensures.answer) c.if-plan-gt-MAX_PLAN.false in
    answers_as _ _ _ (search (rules, f))

pub returns-then-rows-gt-MAX_ROWS : goal.returns-then-rows-gt-MAX_ROWS
returns-then-rows-gt-MAX_ROWS c =
    let e : c.number_at.result ≡ Ok c.in_ok-rows.rows = search rules in
    let many : max_rows < c.in_ok-rows.rows.value = omega arith in
    answers_as _ _ _ ((rw (lt-leb _ _ many))
    ∙ after c.args.plan.now c.args.chute _ (sym e ∙ c.number_at.ensures.answer) c.if-plan-gt-MAX_PLAN.false)

pub returns : goal.returns
returns c =
    let e : c.number_at.result ≡ Ok c.in_ok-rows.rows = search rules in
    let bounded : c.in_ok-rows.rows.value ≤ max_rows = omega arith in
    answers_as _ _ _ (c.read_rows.ensures ∙ (rw (le-leb _ _ bounded))
    ∙ after c.args.plan.now c.args.chute _ (sym e ∙ c.number_at.ensures.answer) c.if-plan-gt-MAX_PLAN.false)
