-- Past the lengths' check the tag is worked out afresh and compared; only then is the text combined with the stream (`Opening`).
use Rattle.std.proofs.Common.{◌≤◌, length, refl, sym, rules}
use Rattle.std.proofs.lemmas.Result.{err_from_is_err_and}
use Rattle.calls.specs.Limits.{max_key}
use Rattle.aead.specs.Aead.{seal_arguments}
use Rattle.aead.proofs.Answers.{open_refused}
use Rattle.seal.specs.Kmac.{kmac_aead}
use Rattle.open.proofs.Opening.{counts, matched, mismatched}
use Rattle.open.proofs.open.Goals as goal

pub returns-in_err-check : goal.returns-in_err-check
returns-in_err-check c =
    let a = c.args in
    let refused = err_from_is_err_and c.from_residual.result c.from_residual.ensures.1 in
    rw (refused.1, refused.2)
    (open_refused kmac_aead (seal_arguments a.key.now a.iv.now a.ciphertext.now a.label.now) a.out.now a.tag.now _ _ (sym c.in_err-check.ensures) refl)

pub returns-then-not-same_beginning : goal.returns-then-not-same_beginning
returns-then-not-same_beginning c =
    let a = c.args in
    let st = c.begin_stream-stream in
    let short : length st.result.authentication ≤ max_key = search rules in
    let tag = c.make_tag-tag_runs in
    mismatched a.key.now a.iv.now a.ciphertext.now a.label.now a.out.now a.tag.now st.result st.ensures short _ (sym c.in_ok-check.ensures)
    tag.new.tag tag.result tag.ensures c.if-not-same_beginning.ensures

pub overflow_add-result : goal.overflow_add-result
overflow_add-result c =
    let a = c.args in
    let st = c.begin_stream-stream in
    let short : length st.result.authentication ≤ max_key = search rules in
    let tag = c.make_tag-tag_runs in
    counts a.key.now a.iv.now a.ciphertext.now a.label.now a.out.now a.tag.now st.result st.ensures short _ (sym c.in_ok-check.ensures)
    tag.new.tag tag.result tag.ensures _ c.combine.ensures.runs

pub returns : goal.returns
returns c =
    let a = c.args in
    let st = c.begin_stream-stream in
    let short : length st.result.authentication ≤ max_key = search rules in
    let tag = c.make_tag-tag_runs in
    matched a.key.now a.iv.now a.ciphertext.now a.label.now a.out.now a.tag.now st.result st.ensures short _ (sym c.in_ok-check.ensures)
    tag.new.tag tag.result tag.ensures _ c.combine.ensures.runs c.if-not-same_beginning.ensures c.combine.new.out c.combine.ensures.text
