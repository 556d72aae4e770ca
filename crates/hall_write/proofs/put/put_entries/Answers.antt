-- Each turn stores one entry, its kind and its value, by the laws of entries stored one after another; after the last turn none are to come.
use Rattle.std.proofs.Common.{rules, sym, ap, ◌∙◌, ℕ, List}
use Rattle.std.proofs.Math.Seq.{sets}
use Rattle.hall_length.specs.Laws.{none_left}
use Rattle.hall_write.proofs.Stores.{kind_past, value_past, putting_more}
use Rattle.hall_write.proofs.put.put_entries.Goals as goal

pub unwrap-past_kind-requires : goal.unwrap-past_kind-requires
unwrap-past_kind-requires c =
    let l = c.loop-i in
    let e = kind_past _ _ l.i c.requires.lists.equal c.loop-i-test.true l.invariant _ c.from.ensures _ _ c.write_number.ensures in
    search (rules, e)

pub unwrap-at-requires : goal.unwrap-at-requires
unwrap-at-requires c =
    let l = c.loop-i in
    let e = value_past _ _ l.i c.requires.lists.equal c.loop-i-test.true l.invariant _ c.from.ensures _ _ c.write_number.ensures _ c.unwrap-past_kind.ensures
    _ _ c.write_number-in-loop-i.ensures in
    search (rules, e)

pub loop-i-preserved : goal.loop-i-preserved
loop-i-preserved c =
    let l = c.loop-i in
    putting_more _ _ l.i c.requires.lists.equal c.loop-i-test.true l.invariant _ c.from.ensures _ _ c.write_number.ensures _ c.unwrap-past_kind.ensures
    _ _ c.write_number-in-loop-i.ensures _ c.unwrap-at.ensures

pub returns : goal.returns
returns c =
    let l = c.loop-i in
    let none = none_left c.args.kinds.now c.args.values.now l.i c.requires.lists.equal c.loop-i-test.false in
    sym (ap (λ (x : List ℕ). sets l.out l.at x) none) ∙ l.invariant.stores
