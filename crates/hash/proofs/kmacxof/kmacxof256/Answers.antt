-- What refuses the call first, or what `run` does past it (`Answers`).
use Rattle.std.proofs.Common.{rules, arith, refl, length, [], ◌∷◌}
use Rattle.encode.specs.Digits.{width_in}
use Rattle.encode.specs.Encode.{big_endian, right_encode}
use Rattle.calls.specs.Call.{Call, KMACXOF256, kmacxof256}
use Rattle.hash.proofs.Answers.{start_refuses, run_answers}
use Rattle.hash.proofs.kmacxof.kmacxof256.Goals as goal

pub returns-in_err-start : goal.returns-in_err-start
returns-in_err-start c =
    let a = c.args in
    let call : Call KMACXOF256 = kmacxof256 a.key.now a.message.now (length a.out.now) a.customisation.now in
    start_refuses call a.out.now c.start_keyed.result c.start_keyed.ensures c.from_residual.result c.in_err-start.field-0.0 c.in_err-start.was (search rules)

pub returns : goal.returns
unfolding right_encode big_endian width_in
returns c =
    let a = c.args in
    let call : Call KMACXOF256 = kmacxof256 a.key.now a.message.now (length a.out.now) a.customisation.now in
    run_answers call a.out.now c.start_keyed.result c.start_keyed.ensures c.in_ok-start.start c.in_ok-start.was
    c.check_extendable-checked.result (0 ∷ 1 ∷ []) _ _ c.check_extendable-checked.ensures (λ o. (refl, omega arith)) refl c.run.ensures
