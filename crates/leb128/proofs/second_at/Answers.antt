-- The second group, by its byte, below which the first is put; or the third.
use Rattle.std.proofs.Common.{ap, false, ◌%◌, arith, subst}
use borrow.Author.Tests.{lt-ltb, le-ltb}
use Rattle.leb128.specs.Number.{Parsed, next_group}
use Rattle.leb128.specs.Answers.{ReadsNumber}
use Rattle.leb128.proofs.Reading.{read_value, read_bad, group_end, group_last, group_empty, group_more}
use Rattle.leb128.proofs.second_at.Goals as goal

pub returns-then-bytes-at : goal.returns-then-bytes-at
returns-then-bytes-at c =
    let a = c.args in
    read_bad _ _ (ap (next_group (a.first % 128)) (group_end false 1 a.at 0 a.bytes.now c.if-bytes-at.true))

pub returns-then-group-eq0 : goal.returns-then-group-eq0
returns-then-group-eq0 c =
    let a = c.args in
    let none = le-ltb 0 c.from-group.result (omega (arith, c.if-group-eq0.true)) in
    read_bad _ _
    (ap (next_group (a.first % 128))
    (group_empty false 1 a.at c.from-group.result a.bytes.now c.if-bytes-at.false c.from-group.ensures c.if-group-lt128.true none))

pub returns-then-group-lt128 : goal.returns-then-group-lt128
returns-then-group-lt128 c =
    let a = c.args in
    let some = lt-ltb 0 c.from-group.result (omega (arith, c.if-group-eq0.false)) in
    read_value _ _ _ _
    (ap (next_group (a.first % 128))
    (group_last false 1 a.at c.from-group.result a.bytes.now c.if-bytes-at.false c.from-group.ensures c.if-group-lt128.true some))

pub returns : goal.returns
returns c =
    let a = c.args in
    subst (λ (p : Parsed). ReadsNumber (next_group (a.first % 128) p) c.third_at.result)
    (group_more false 0 a.at c.from-group.result a.bytes.now c.if-bytes-at.false c.from-group.ensures c.if-group-lt128.false)
    c.third_at.ensures
