-- What refuses the call first, or what `run` does past it (`Answers`).
use Rattle.std.proofs.Common.{rules, arith, refl, length, []}
use Rattle.calls.specs.Call.{Call, cSHAKE256, cshake256}
use Rattle.hash.proofs.Answers.{start_refuses, run_answers}
use Rattle.hash.proofs.cshake.cshake256.Goals as goal

pub returns-in_err-start : goal.returns-in_err-start
returns-in_err-start c =
    let a = c.args in
    let call : Call cSHAKE256 = cshake256 a.message.now (length a.out.now) a.name.now a.customisation.now in
    start_refuses call a.out.now c.start_named.result c.start_named.ensures c.from_residual.result c.in_err-start.field-0.0 c.in_err-start.was (search rules)

pub returns : goal.returns
returns c =
    let a = c.args in
    let call : Call cSHAKE256 = cshake256 a.message.now (length a.out.now) a.name.now a.customisation.now in
    run_answers call a.out.now c.start_named.result c.start_named.ensures c.in_ok-start.start c.in_ok-start.was
    c.check_extendable-checked.result [] _ _ c.check_extendable-checked.ensures (λ o. (refl, omega arith)) refl c.run.ensures
