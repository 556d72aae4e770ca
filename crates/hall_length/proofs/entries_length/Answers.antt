-- Each turn's entry takes at most six bytes, by the laws of entries counted one after another; a count past the limit is a plan past it.
use Rattle.std.proofs.Common.{rules, ◌≡◌, ap, ◌∙◌, ◌+◌, length, arith}
use Rattle.plan_length.specs.Length.{length_is}
use Rattle.hall_check.specs.Lists.{pairs}
use Rattle.hall_length.specs.Written.{written_entries}
use Rattle.hall_length.specs.Laws.{none_left}
use Rattle.hall_length.proofs.Counting.{kind_some, value_some, counted, too_long_lem, within_limit}
use Rattle.hall_length.proofs.entries_length.Goals as goal

pub unwrap-kind-requires : goal.unwrap-kind-requires
unwrap-kind-requires c =
    let l = c.loop-i in
    let e = kind_some _ _ l.i c.requires.0.equal c.loop-i-test.true l.invariant.left _ _ c.from.ensures c.number_length.ensures in
    search (rules, e)

pub unwrap-value-requires : goal.unwrap-value-requires
unwrap-value-requires c =
    let l = c.loop-i in
    let e = value_some _ _ l.i c.requires.0.equal c.loop-i-test.true l.invariant.left _ c.number_length-in-loop-i.ensures in
    search (rules, e)

pub overflow_add-length : goal.overflow_add-length
overflow_add-length c =
    let l = c.loop-i in
    let n = counted c.args.kinds.now c.args.values.now l.i c.requires.0.equal c.loop-i-test.true l.invariant.left _ _ _ _ _ c.from.ensures
    c.number_length.ensures c.unwrap-kind.ensures c.number_length-in-loop-i.ensures c.unwrap-value.ensures in
    omega (arith, n.few)

pub overflow_add-length-in-loop-i : goal.overflow_add-length-in-loop-i
overflow_add-length-in-loop-i c =
    let l = c.loop-i in
    let n = counted c.args.kinds.now c.args.values.now l.i c.requires.0.equal c.loop-i-test.true l.invariant.left _ _ _ _ _ c.from.ensures
    c.number_length.ensures c.unwrap-kind.ensures c.number_length-in-loop-i.ensures c.unwrap-value.ensures in
    omega (arith, n.few, l.invariant.short)

pub returns-then-length-gt-MAX_PLAN : goal.returns-then-length-gt-MAX_PLAN
returns-then-length-gt-MAX_PLAN c =
    let l = c.loop-i in
    let n = counted c.args.kinds.now c.args.values.now l.i c.requires.0.equal c.loop-i-test.true l.invariant.left _ _ _ _ _ c.from.ensures
    c.number_length.ensures c.unwrap-kind.ensures c.number_length-in-loop-i.ensures c.unwrap-value.ensures in
    too_long_lem (c.args.first + length (written_entries (pairs c.args.kinds.now c.args.values.now)))
    (omega (arith, n.bytes, l.invariant.sum, c.if-length-gt-MAX_PLAN.true))

pub loop-i-preserved : goal.loop-i-preserved
loop-i-preserved c =
    let l = c.loop-i in
    let n = counted c.args.kinds.now c.args.values.now l.i c.requires.0.equal c.loop-i-test.true l.invariant.left _ _ _ _ _ c.from.ensures
    c.number_length.ensures c.unwrap-kind.ensures c.number_length-in-loop-i.ensures c.unwrap-value.ensures in
    record { short = omega (arith, c.if-length-gt-MAX_PLAN.false); left = n.left; sum = omega (arith, n.bytes, l.invariant.sum) }

pub returns : goal.returns
returns c =
    let l = c.loop-i in
    let a = c.args in
    let none = ap length (none_left a.kinds.now a.values.now l.i c.requires.0.equal c.loop-i-test.false) in
    let all : l.length ≡ a.first + length (written_entries (pairs a.kinds.now a.values.now)) = omega (arith, none, l.invariant.sum) in
    ap length_is all ∙ within_limit (a.first + length (written_entries (pairs a.kinds.now a.values.now))) (omega (arith, l.invariant.short))
