-- What stands at the place is combined with the text's byte there: exclusive or, in either order.
use Rattle.std.proofs.Common.{◌<◌, length, slice_index, arith}
use Rattle.std.proofs.lemmas.Nat.{xor_comm}
use Rattle.byte_strings.proofs.Combining.{one_more, no_more}
use Rattle.byte_strings.proofs.combine.Goals as goal

pub loop-i-preserved : goal.loop-i-preserved
loop-i-preserved c =
    let text : c.loop-i.i < length c.args.text.now = omega arith in
    let out : c.loop-i.i < length c.loop-i.out = omega arith in
    let combined = xor_comm (slice_index c.loop-i.out c.loop-i.i) (slice_index c.args.text.now c.loop-i.i) in
    one_more c.args.text.now c.loop-i.out _ c.loop-i.i _ text out combined c.loop-i.invariant

pub returns : goal.returns
returns c = no_more c.args.text.now c.loop-i.out _ c.loop-i.i (omega arith) c.loop-i.invariant
