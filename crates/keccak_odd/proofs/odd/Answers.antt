-- The steps' contracts make the round's (`Passes.round_made`).
use Rattle.std.proofs.Common.{get_or, ◌%◌}
use Rattle.in_place.specs.Places.{standing}
use Rattle.in_place.specs.Laws.Passes.{round_made}
use Rattle.keccak_odd.proofs.odd.Goals as goal

pub returns : goal.returns
returns c =
    let a = c.args in
    round_made 1 (standing a.p.now a.q.now) _ _ _ _ _ a.t c.parities.result c.effect-d.result c.step0.result
    (get_or a.k.now (a.i % 24) 0)
    c.parities.ensures c.effect-d.ensures
    c.step4.ensures c.step3.ensures c.step1.ensures c.step2.ensures c.step0.ensures.0 c.step0.ensures.1
