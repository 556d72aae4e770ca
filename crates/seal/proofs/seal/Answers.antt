-- Past the lengths' check the parts make the stream, the ciphertext and the tag; their contracts are the definition's steps (`Steps`).
use Rattle.std.proofs.Common.{◌≤◌, length, refl, sym, rules}
use Rattle.std.proofs.lemmas.Result.{err_from_is_err_and}
use Rattle.calls.specs.Limits.{max_key}
use Rattle.aead.specs.Aead.{seal_arguments}
use Rattle.aead.proofs.Answers.{seal_refused}
use Rattle.seal.specs.Kmac.{kmac_aead}
use Rattle.seal.proofs.Steps.{counts, seals}
use Rattle.seal.proofs.seal.Goals as goal

pub returns-in_err-check : goal.returns-in_err-check
returns-in_err-check c =
    let a = c.args in
    let refused = err_from_is_err_and c.from_residual.result c.from_residual.ensures.1 in
    rw (refused.1, refused.2)
    (seal_refused kmac_aead (seal_arguments a.key.now a.iv.now a.text.now a.label.now) a.out.now a.tag.now _ _ (sym c.in_err-check.ensures) refl)

pub overflow_add-result : goal.overflow_add-result
overflow_add-result c =
    let a = c.args in
    let st = c.begin_stream-stream in
    let short : length st.result.authentication ≤ max_key = search rules in
    let stream = c.combine in
    counts a.key.now a.iv.now a.text.now a.label.now a.out.now a.tag.now st.result st.ensures short _ (sym c.in_ok-check.ensures)
    stream.new.self.authentication stream.new.out c.make_tag-tag_runs.new.tag _ _ stream.ensures.authentication stream.ensures.runs
    c.make_tag-tag_runs.ensures stream.auto.out

pub returns : goal.returns
returns c =
    let a = c.args in
    let st = c.begin_stream-stream in
    let short : length st.result.authentication ≤ max_key = search rules in
    let stream = c.combine in
    seals a.key.now a.iv.now a.text.now a.label.now a.out.now a.tag.now st.result st.ensures short _ (sym c.in_ok-check.ensures)
    stream.new.self.authentication stream.new.out c.make_tag-tag_runs.new.tag _ _ stream.ensures.authentication stream.ensures.runs
    c.make_tag-tag_runs.ensures stream.auto.out stream.ensures.text
