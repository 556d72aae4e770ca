-- The first group, by its byte; or those after it.
use Rattle.std.proofs.Common.{refl, true, subst}
use Rattle.leb128.specs.Number.{Parsed}
use Rattle.leb128.specs.Answers.{ReadsNumber}
use Rattle.leb128.proofs.Reading.{read_value, read_bad, group_end, group_last, group_more}
use Rattle.leb128.proofs.number_at.Goals as goal

pub returns-then-bytes-at : goal.returns-then-bytes-at
returns-then-bytes-at c =
    let a = c.args in
    read_bad _ _ (group_end true 2 a.at 0 a.bytes.now c.if-bytes-at.true)

pub returns-then-first-lt128 : goal.returns-then-first-lt128
returns-then-first-lt128 c =
    let a = c.args in
    read_value _ _ _ _
    (group_last true 2 a.at c.from-first.result a.bytes.now c.if-bytes-at.false c.from-first.ensures c.if-first-lt128.true refl)

pub returns : goal.returns
returns c =
    let a = c.args in
    subst (λ (p : Parsed). ReadsNumber p c.second_at.result)
    (group_more true 1 a.at c.from-first.result a.bytes.now c.if-bytes-at.false c.from-first.ensures c.if-first-lt128.false)
    c.second_at.ensures
