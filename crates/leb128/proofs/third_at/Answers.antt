-- The third group, by its byte, below which the first two are put.
use Rattle.std.proofs.Common.{refl, ap, false, ℕ, ◌%◌, arith}
use borrow.Author.Tests.{lt-ltb, le-ltb}
use Rattle.leb128.specs.Number.{Parsed, next_group}
use Rattle.leb128.proofs.Reading.{read_value, read_bad, group_end, group_last, group_empty, group_over}
use Rattle.leb128.proofs.third_at.Goals as goal

-- the number by the third group
abbrev below : ℕ → ℕ → Parsed → Parsed
below first second p = next_group (first % 128) (next_group (second % 128) p)

pub returns-then-bytes-at : goal.returns-then-bytes-at
returns-then-bytes-at c =
    let a = c.args in
    read_bad _ _ (ap (below a.first a.second) (group_end false 0 a.at 0 a.bytes.now c.if-bytes-at.true))

pub returns-then-group-eq0 : goal.returns-then-group-eq0
returns-then-group-eq0 c =
    let a = c.args in
    let none = le-ltb 0 c.from-group.result (omega (arith, c.if-group-eq0.true)) in
    read_bad _ _
    (ap (below a.first a.second)
    (group_empty false 0 a.at c.from-group.result a.bytes.now c.if-bytes-at.false c.from-group.ensures c.if-group-lt128.true none))

pub returns-then-group-lt128 : goal.returns-then-group-lt128
returns-then-group-lt128 c =
    let a = c.args in
    let some = lt-ltb 0 c.from-group.result (omega (arith, c.if-group-eq0.false)) in
    read_value _ _ _ _
    (ap (below a.first a.second)
    (group_last false 0 a.at c.from-group.result a.bytes.now c.if-bytes-at.false c.from-group.ensures c.if-group-lt128.true some))

pub returns : goal.returns
returns c =
    let a = c.args in
    read_bad _ _
    (ap (below a.first a.second)
    (group_over false 0 a.at c.from-group.result a.bytes.now c.if-bytes-at.false c.from-group.ensures c.if-group-lt128.false refl))
