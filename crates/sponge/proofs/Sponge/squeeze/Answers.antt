-- The rest of the block that has begun, then what comes after it (`Squeezing.squeezed_begun`, `Squeezing.squeezed_past`).
use Rattle.std.proofs.Common.{arith}
use Rattle.sponge.proofs.Squeezing.{squeezed_begun, squeezed_past}
use Rattle.sponge.proofs.Sponge.squeeze.Goals as goal

pub returns-then-out-n : goal.returns-then-out-n
returns-then-out-n c =
    let a = c.args in
    let p = c.put_out-n in
    squeezed_begun a.out.now a.self.now.lanes _ a.self.now.position p.result p.ensures.0 p.ensures.1 (omega arith)

pub returns : goal.returns
returns c =
    let a = c.args in
    let p = c.put_out-n in
    let s = c.squeeze_from in
    squeezed_past a.out.now a.self.now.lanes p.new.out a.self.now.position p.result p.ensures.0 p.ensures.1
    s.new.self.lanes _ s.new.self.position (omega arith) p.auto.out s.ensures.0 s.ensures.1
