-- A long plan is refused before it is read. Else the length hangs on the first number, by the definition's own cases: too many rows, the rows that
-- `rows_length` reads and counts, or no number.
use Rattle.std.proofs.Common.{rules, ◌≡◌, sym, ap, ◌∙◌, ℕ, ◌≤◌, ◌<◌, List, length, drop, arith, Result, Ok, Err}
use borrow.Author.Tests.{le-leb, lt-leb}
use Rattle.answers.specs.declared.Malformed.{Malformed}
use Rattle.leb128.specs.Answers.{number_answer}
use Rattle.leb128.specs.declared.Number.{Number}
use Rattle.old_number.specs.OldNumber.{old_number}
use Rattle.plan_read.specs.Limits.{max_plan, max_rows}
use Rattle.plan_read.specs.Plan.{rows_by}
use Rattle.plan_read.specs.Laws.Reading.{rows_after, whole_long, whole_after}
use Rattle.plan_migration.specs.Migration.{migrated_length, migrated_length_of}
use Rattle.plan_migration.proofs.Rows.{first_rest, rows_readable, length_counted}
use Rattle.plan_migration.proofs.migrated_length.Goals as goal

-- the length, by the first number n
after : (s : List ℕ) (n : Result Number Malformed) → n ≡ number_answer (old_number 0 s) → length s ≤ max_plan
    → rows_after old_number s migrated_length n ≡ migrated_length_of s
unfolding migrated_length_of
after s n e h = ap (rows_after old_number s migrated_length) e ∙ whole_after old_number s migrated_length (first_rest s) h

pub returns-then-plan-gt-MAX_PLAN : goal.returns-then-plan-gt-MAX_PLAN
unfolding migrated_length_of
returns-then-plan-gt-MAX_PLAN c = sym (whole_long old_number _ migrated_length c.if-plan-gt-MAX_PLAN.true)

pub returns-in_err-rows : goal.returns-in_err-rows
returns-in_err-rows c =
    let f = after c.args.plan.now (Err c.in_err-rows.field-0.0) c.in_err-rows.ensures.answer c.if-plan-gt-MAX_PLAN.false in
    search (rules, f)

pub returns-then-rows-gt-MAX_ROWS : goal.returns-then-rows-gt-MAX_ROWS
returns-then-rows-gt-MAX_ROWS c =
    let many : max_rows < c.in_ok-rows.rows.value = omega arith in
    (rw (lt-leb _ _ many)) ∙ after c.args.plan.now (Ok c.in_ok-rows.rows) c.in_ok-rows.ensures.answer c.if-plan-gt-MAX_PLAN.false

pub rows_length-requires : goal.rows_length-requires
rows_length-requires c = omega arith

pub returns : goal.returns
returns c =
    let s = c.args.plan.now in
    let n = c.in_ok-rows.rows in
    let bounded : n.value ≤ max_rows = omega arith in
    c.rows_length.ensures
    ∙ length_counted n.value (rows_by old_number n.value n.next (drop n.next s)) bounded (rows_readable n.value n.next (drop n.next s))
    ∙ (rw (le-leb _ _ bounded)) ∙ after s (Ok n) c.in_ok-rows.ensures.answer c.if-plan-gt-MAX_PLAN.false
