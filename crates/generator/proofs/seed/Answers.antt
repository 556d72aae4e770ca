use Rattle.std.proofs.Common.{sym, ◌∙◌}
use Rattle.generator.proofs.Done.{seed_done}
use Rattle.generator.proofs.seed.Goals as goal

pub returns-in-Ok : goal.returns-in-Ok
returns-in-Ok c =
    let a = c.args in
    c.accepted.ensures
    ∙ seed_done a.drng a.generator a.seed.now a.personalisation.now c.new_key-made.result _ (sym c.in-Ok.ensures) c.new_key-made.ensures
