-- What refuses the call first, or what `run` does past it (`Answers`).
use Rattle.std.proofs.Common.{rules, arith, refl, ap, ◌∙◌, ◌≤◌, length, mod-eq_of_lt}
use Rattle.encode.specs.Encode.{right_encode}
use Rattle.calls.specs.Limits.{max_output}
use Rattle.encode.proofs.Laws.Answer.{answers_code, answers_take}
use Rattle.calls.specs.Call.{Call, KMAC256, kmac256}
use Rattle.hash.proofs.Answers.{start_refuses, run_answers}
use Rattle.hash.proofs.kmac.kmac256.Goals as goal

pub returns-in_err-start : goal.returns-in_err-start
returns-in_err-start c =
    let a = c.args in
    let call : Call KMAC256 = kmac256 a.key.now a.message.now (length a.out.now) a.customisation.now in
    start_refuses call a.out.now c.start_keyed.result c.start_keyed.ensures c.from_residual.result c.in_err-start.field-0.0 c.in_err-start.was (search rules)

pub returns : goal.returns
returns c =
    let a = c.args in
    let call : Call KMAC256 = kmac256 a.key.now a.message.now (length a.out.now) a.customisation.now in
    run_answers call a.out.now c.start_keyed.result c.start_keyed.ensures c.in_ok-start.start c.in_ok-start.was
    c.check_kmac256-checked.result c.as_bytes.result.now _ _ c.check_kmac256-checked.ensures
    (λ (o : length a.out.now ≤ max_output). (
      c.as_bytes.ensures ∙ answers_code c.right_encode-bits.ensures ∙ ap right_encode (mod-eq_of_lt (omega arith) ∙ omega arith),
      rw c.as_bytes.ensures (omega (arith, c.right_encode-bits.ensures.fits, answers_take c.right_encode-bits.ensures)),
    ))
    refl c.run.ensures
