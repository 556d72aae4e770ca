-- The tests say whether there is room; every refusal stands before the store.
use Rattle.std.proofs.Common.{arith}
use Rattle.leb128_write.proofs.Writing.{none_room, all_stored}
use Rattle.leb128_write.proofs.put.put_groups.Goals as goal

pub returns-in_err-room : goal.returns-in_err-room
returns-in_err-room c = rw c.from_residual.ensures (none_room c.args.at c.args.groups.now c.args.out.now (omega arith))

pub returns-then-room-groups : goal.returns-then-room-groups
returns-then-room-groups c = none_room c.args.at c.args.groups.now c.args.out.now (omega arith)

pub returns : goal.returns
returns c =
    all_stored c.args.at c.args.groups.now c.args.out.now (omega arith) c.copy_from_slice.new.self c.copy_from_slice.ensures.after
