-- The answer of the present rule is that of the old one, but where it failed at a byte of 0: a last group that is one too many.
-- This is the second or the third, so that the first two make the number.
use Rattle.std.proofs.Common.{rules, ◌≡◌, ◌<◌, length, get_or, arith}
use Rattle.old_number.proofs.Reading.{old_value, old_over, empty_group, old_empty}
use Rattle.old_number.proofs.old_number_at.Goals as goal

pub returns-in-Ok : goal.returns-in-Ok
returns-in-Ok c = old_value c.args.at c.args.bytes.now _ c.in-Ok.ensures

pub overflow_add-at : goal.overflow_add-at
overflow_add-at c =
    let there : c.in-Err.field-0.place < length c.args.bytes.now = search rules in
    let zero : get_or c.args.bytes.now c.in-Err.field-0.place 0 ≡ 0 = search rules in
    omega (arith, empty_group c.args.at c.args.bytes.now _ c.in-Err.ensures there zero)

pub returns-in-Err : goal.returns-in-Err
returns-in-Err c =
    let there : c.in-Err.field-0.place < length c.args.bytes.now = search rules in
    let zero : get_or c.args.bytes.now c.in-Err.field-0.place 0 ≡ 0 = search rules in
    old_empty c.args.at c.args.bytes.now _ c.in-Err.ensures there zero c.group_at.result c.group_at-in-Err.result c.group_at.ensures c.group_at-in-Err.ensures

pub returns-in-Err-2 : goal.returns-in-Err-2
returns-in-Err-2 c = old_over c.args.at c.args.bytes.now _ c.in-Err.ensures (λ l z. search (rules, l, z))
