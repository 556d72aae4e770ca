-- Each case by the laws of the rows to come: a row more is counted, none is there, bytes are left after the last row, or none are.
use Rattle.std.proofs.Common.{rules, ◌≡◌, sym, ap, ◌∙◌, ◌-◌, ◌≤◌, drop, arith}
use Rattle.old_number.specs.OldNumber.{old_number}
use Rattle.old_number.proofs.Reading.{bad_known}
use Rattle.plan_read.specs.Plan.{rows_by}
use Rattle.plan_read.specs.Laws.Reading.{rows_bad, rows_over, rows_end}
use Rattle.plan_migration.specs.Room.{length_with}
use Rattle.plan_migration.proofs.Rows.{found, Counted, counted, length_some, with_more, with_none}
use Rattle.plan_migration.proofs.rows_length.Goals as goal

pub unwrap-length-requires : goal.unwrap-length-requires
unwrap-length-requires c =
    let some = length_some c.args.count (omega (arith, c.requires)) in
    search (rules, some)

pub loop-init : goal.loop-init
loop-init c =
    let a = c.args in
    let e : a.count - 0 ≡ a.count = omega arith in
    let k = counted a.count (omega (arith, c.requires)) c.number_length.result c.number_length.ensures c.unwrap-length.result c.unwrap-length.ensures in
    record { small = k.small; answer = rw (e, k.is) }

pub returns-in_err-row : goal.returns-in_err-row
returns-in_err-row c =
    let l = c.loop in
    let s = c.args.plan.now in
    let none = rows_bad old_number s l.counter c.args.count l.at c.in_err-row.field-0.0.place c.loop-test.true
    (bad_known (old_number l.at (drop l.at s)) c.in_err-row.field-0.0 c.in_err-row.ensures) in
    let f = sym (ap (length_with l.length) none) ∙ l.invariant.answer in
    search (rules, f)

pub unwrap-length-requires-in-loop : goal.unwrap-length-requires-in-loop
unwrap-length-requires-in-loop c =
    let some = length_some c.in_ok-row.row.value (found c.loop.at c.args.plan.now c.in_ok-row.row c.in_ok-row.ensures).small in
    search (rules, some)

-- the bytes of the row that was read
row_counted : (c : goal.After-unwrap-length-in-loop) → Counted c.in_ok-row.row.value c.unwrap-length-in-loop.result
row_counted c =
    let f = found c.loop.at c.args.plan.now c.in_ok-row.row c.in_ok-row.ensures in
    counted c.in_ok-row.row.value f.small _ c.number_length-in-loop.ensures c.unwrap-length-in-loop.result c.unwrap-length-in-loop.ensures

pub overflow_add-length : goal.overflow_add-length
overflow_add-length c = let k = row_counted c in omega (arith, k.small)

pub loop-preserved : goal.loop-preserved
loop-preserved c =
    let l = c.loop in
    let s = c.args.plan.now in
    let n = c.in_ok-row.row in
    let k = row_counted c in
    record {
      small = omega (arith, k.small);
      answer =
          rw k.is (sym (with_more s l.counter c.args.count l.at n.value n.next l.length c.loop-test.true (found l.at s n c.in_ok-row.ensures))
          ∙ l.invariant.answer);
    }

pub returns-then-at-plan : goal.returns-then-at-plan
returns-then-at-plan c =
    let l = c.loop in
    let last : c.args.count ≤ l.counter = omega arith in
    sym (ap (length_with l.length) (rows_over old_number c.args.plan.now l.counter c.args.count l.at last c.if-at-plan.true)) ∙ l.invariant.answer

pub returns : goal.returns
returns c =
    let l = c.loop in
    let s = c.args.plan.now in
    let last : c.args.count ≤ l.counter = omega arith in
    sym (with_none l.length (rows_by old_number (c.args.count - l.counter) l.at (drop l.at s))
    (rows_end old_number s l.counter c.args.count l.at last c.if-at-plan.false))
    ∙ l.invariant.answer
