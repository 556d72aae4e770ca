-- Each turn stores the entry that stands first; the stores end where there is none, or where the lists are full.
use Rattle.std.proofs.Common.{sym, drop}
use Rattle.std.proofs.lemmas.List.{set-get_or}
use Rattle.hall_entry.specs.Answers.{kind_number}
use Rattle.hall_entry.specs.Bytes.{entry_head}
use Rattle.hall_entry.specs.Laws.Heads.{head_known, head_wrong}
use Rattle.hall_entry.specs.Laws.Bytes.{byte_heads}
use Rattle.hall_lists.proofs.Filling.{filling_more, filling_done, sequence_stop, sequence_end}
use Rattle.hall_lists.proofs.fill.fill_lists.Goals as goal

pub returns-in_default : goal.returns-in_default
returns-in_default c =
    let l = c.loop-i in
    let m = c.in_default.field-0 in
    rw (set-get_or l.kinds l.i 0)
    (filling_done l.invariant
    (sequence_stop c.args.plan.now _ l.i l.at m.place c.loop-i-test.true (head_wrong _ m (sym c.in_default.ensures.answer))))

pub loop-i-preserved : goal.loop-i-preserved
loop-i-preserved c =
    let l = c.loop-i in
    let s = c.args.plan.now in
    let e = c.in-Ok.entry in
    let h = head_known s 1 0 l.at e (entry_head l.at (drop l.at s)) (byte_heads s 1 0 l.at) (sym c.in-Ok.ensures.answer) in
    rw c.from.ensures
    (filling_more l.invariant (kind_number e.kind) e.value e.next c.loop-i-test.true h.is)

pub returns : goal.returns
returns c = let l = c.loop-i in filling_done l.invariant (sequence_end c.args.plan.now _ l.i l.at c.loop-i-test.false)
