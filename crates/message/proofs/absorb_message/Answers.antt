-- The calls in a row put in the pieces one after the other (`Chain.then_absorbed`), and then the padding.
use Rattle.std.proofs.Common.{arith, ◌++◌, ◌%◌, length-append}
use Rattle.encode.specs.Padding.{rate}
use Rattle.sponge.specs.Running.{running}
use Rattle.sponge.proofs.Chain.{then_absorbed, then_finished}
use Rattle.message.proofs.absorb_message.Goals as goal

pub returns : goal.returns
returns c =
    let old = c.args.sponge.now in
    let from = running old.lanes (old.position % rate) in
    let x = c.args.first.now in
    let y = c.args.second.now in
    let z = c.args.last.now in
    let one = c.absorb.new.self in
    let two = c.absorb-2.new.self in
    let all = c.absorb-3.new.self in
    let e = then_absorbed from one.lanes two.lanes x one.position two.position c.absorb.ensures.1 c.absorb.ensures.0 y c.absorb-2.ensures.0 in
    let f = then_absorbed from two.lanes all.lanes (x ++ y) two.position all.position c.absorb-2.ensures.1 e z c.absorb-3.ensures.0 in
    record {
      is = then_finished from all.lanes _ ((x ++ y) ++ z) all.position _ c.absorb-3.ensures.1 f c.args.suffix c.finish.ensures.0;
      begins = c.finish.ensures.1;
      blocks = omega (arith, c.block_count.ensures, length-append x y, length-append (x ++ y) z);
    }
