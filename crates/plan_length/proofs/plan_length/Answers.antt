-- Each case by the laws of rows counted one after another; a row that has a length is within the rules, and its length is at most 3.
use Rattle.std.proofs.Common.{rules, ◌≡◌, sym, ap, ◌∙◌, ℕ, ◌+◌, ◌≤◌, ◌<◌, length, drop, get_or, arith, Option, Some}
use Rattle.leb128.specs.Number.{max_number}
use Rattle.leb128_write.specs.Written.{written_number}
use Rattle.leb128_write.specs.Answers.{number_length, unless_zero}
use Rattle.leb128_write.proofs.Laws.{groups_count, length_known, length_none}
use Rattle.plan_read.specs.Limits.{max_rows}
use Rattle.plan_length.proofs.Rows.{length_after, length_start, length_many, length_more, length_large, length_end}
use Rattle.plan_length.proofs.plan_length.Goals as goal

-- a number v that has a length n
record Known (v n : ℕ) : Type 0 where
  within : v ≤ max_number
  counted : n ≡ length (written_number v)
  small : n ≤ 3

known : (v n : ℕ) (r : Option ℕ) → r ≡ Some n → r ≡ unless_zero (number_length v) → Known v n
known v n r s e =
    let k = length_known v n (sym s ∙ e) in
    record { within = k.0; counted = k.1; small = omega (arith, k.1, groups_count 2 v) }

pub returns-then-rows : goal.returns-then-rows
returns-then-rows c = length_many _ c.if-rows.true

pub returns-in_err-length : goal.returns-in_err-length
returns-in_err-length c =
    let over : max_number < length c.args.rows.now = length_none _ (sym c.in_err-length.ensures.ok_part ∙ c.number_length.ensures) in
    absurd (omega arith)

pub loop-row-init : goal.loop-row-init
loop-row-init c =
    let l = c.args.rows.now in
    let bounded : length l ≤ max_rows = omega arith in
    let k = known (length l) c.in_ok-length.length c.number_length.result c.in_ok-length.ensures.ok_part c.number_length.ensures in
    record { small = k.small; answer = rw k.counted (length_start l bounded) }

pub returns-in_err-length-2 : goal.returns-in_err-length-2
returns-in_err-length-2 c =
    let l = c.loop-row in
    let rows = c.args.rows.now in
    let over = length_none (get_or rows l.row-index 0) (sym c.in_err-length-2.ensures.ok_part ∙ c.number_length-in-loop-row.ensures) in
    let none = sym (length_large l.row-index rows c.loop-row-test.true l.length over) ∙ l.invariant.answer in
    search (rules, none)

pub overflow_add-length : goal.overflow_add-length
overflow_add-length c =
    let n = c.number_length-in-loop-row in
    let k = known (get_or c.args.rows.now c.loop-row.row-index 0) c.in_ok-length-2.field-0 n.result c.in_ok-length-2.ensures.ok_part n.ensures in
    omega (arith, k.small)

pub loop-row-preserved : goal.loop-row-preserved
loop-row-preserved c =
    let l = c.loop-row in
    let rows = c.args.rows.now in
    let n = c.number_length-in-loop-row in
    let k = known (get_or rows l.row-index 0) c.in_ok-length-2.field-0 n.result c.in_ok-length-2.ensures.ok_part n.ensures in
    record {
      small = omega (arith, k.small);
      answer =
          ap (λ (m : ℕ). length_after (l.length + m) (drop (l.row-index + 1) rows)) k.counted
          ∙ sym (length_more l.row-index rows c.loop-row-test.true l.length k.within) ∙ l.invariant.answer;
    }

pub returns : goal.returns
returns c =
    let l = c.loop-row in
    let end = sym (length_end l.row-index l.length c.args.rows.now (omega arith)) ∙ l.invariant.answer in
    search (rules, end)
