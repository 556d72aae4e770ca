-- Whole blocks, and the bytes left over (`Squeezing.squeezed_to_end`, `Squeezing.squeezed_from`).
use Rattle.std.proofs.Common.{arith}
use Rattle.encode.specs.Padding.{whole_blocks}
use Rattle.sponge.proofs.Squeezing.{squeezed_to_end, squeezed_from}
use Rattle.sponge.proofs.Sponge.squeeze_from.Goals as goal

pub returns-then-out-at : goal.returns-then-out-at
returns-then-out-at c =
    let a = c.args in
    let b = c.squeeze_blocks-at in
    squeezed_to_end a.out.now a.self.now.lanes _ _ a.from (whole_blocks a.out.now a.from) b.result b.ensures.0 b.ensures.1 b.ensures.2
    (omega arith) (omega arith)

pub returns : goal.returns
returns c =
    let a = c.args in
    let b = c.squeeze_blocks-at in
    let p = c.put_out-self in
    squeezed_from a.out.now a.self.now.lanes b.new.lanes b.new.out a.from (whole_blocks a.out.now a.from) b.result b.ensures.0 b.ensures.1 b.ensures.2
    c.permute.new.lanes _ p.result (omega arith) (omega arith) (omega arith) c.permute.ensures p.ensures.1
