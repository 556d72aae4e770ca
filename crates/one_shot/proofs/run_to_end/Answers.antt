-- The calls put in the message and its ending, end the input and squeeze (`Chain.chained`).
use Rattle.std.proofs.Common.{length, ◌∙◌}
use Rattle.sponge.specs.Running.{state_of}
use Rattle.one_shot.proofs.Chain.{chained}
use Rattle.one_shot.proofs.run_to_end.Goals as goal

pub returns : goal.returns
returns c =
    let a = c.args in
    let first = c.absorb.new.self in
    let second = c.absorb_ending.new.sponge in
    let end = c.finish.new.self in (
      rw c.squeeze.auto.out at c.runs.ensures,
      c.squeeze.ensures.1
          ∙ chained a.start (state_of c.sponge-sponge.result) first.lanes second.lanes end.lanes a.message.now a.ending.now first.position
          second.position end.position (length a.out.now) c.sponge-sponge.ensures c.absorb.ensures.0 c.absorb_ending.ensures.0 c.absorb_ending.ensures.1
          c.finish.ensures.0,
    )
