-- The sponge is finished after right_encode(0), or where it stands.
use Rattle.session_end.proofs.Ending.{ended_kmac, ended_plain}
use Rattle.session_end.proofs.end_input.Goals.{then-kmac, else-kmac}
use Rattle.session_end.proofs.end_input.Goals as goal

pub returns : goal.returns
returns c =
    let a = c.args in
    let last = c.if-kmac.sponge in
    let done = c.finish.ensures.0 in
    elim c.if-kmac.branch [
      | then-kmac w ↦
          let put = w.absorb in
          ended_kmac a.suffix a.kmac last _ done _ put.new.self w.if-kmac.true w.sponge-is put.ensures.0 put.ensures.1
      | else-kmac w ↦ ended_plain a.suffix a.kmac last _ done a.sponge.now w.if-kmac.false w.sponge-is
    ]
