-- The range of the number says which groups it has, and their stores whether there is room.
use Rattle.std.proofs.Common.{arith}
use Rattle.leb128_write.proofs.Writing.{one_group, two_groups, three_groups, none_large, groups_written}
use Rattle.leb128_write.proofs.write_number.Goals as goal

pub returns-in-0-to-127 : goal.returns-in-0-to-127
returns-in-0-to-127 c =
    let v = c.args.value in
    groups_written c.args.at v c.args.out.now (omega arith) _ (one_group v (omega arith)) _ _ c.put_groups.ensures

pub returns-in-128-to-16383 : goal.returns-in-128-to-16383
returns-in-128-to-16383 c =
    let v = c.args.value in
    let p = c.put_groups-in-128-to-16383 in
    groups_written c.args.at v c.args.out.now (omega arith) _ (rw (← c.more.ensures) at (two_groups v (omega arith) (omega arith))) _ _ p.ensures

pub returns-in-16384-to-2097151 : goal.returns-in-16384-to-2097151
returns-in-16384-to-2097151 c =
    let v = c.args.value in
    let p = c.put_groups-in-16384-to-2097151 in
    groups_written c.args.at v c.args.out.now (omega arith) _
    (rw (← c.more-in-16384-to-2097151.ensures, ← c.more-in-16384-to-2097151-2.ensures) at (three_groups v (omega arith))) _ _ p.ensures

pub returns-in_default : goal.returns-in_default
returns-in_default c = none_large c.args.at c.args.value c.args.out.now (omega arith)
