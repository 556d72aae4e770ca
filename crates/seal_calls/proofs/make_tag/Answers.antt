-- The calls make KMACXOF256 of ciphertext and label (`Xof`).
use Rattle.std.proofs.Common.{[], ◌++◌, length, ap, ◌∙◌, rules}
use Rattle.calls.specs.Start.{keyed}
use Rattle.sponge.specs.Running.{squeezed}
use Rattle.start.specs.Started.{StartedBy}
use Rattle.start.proofs.Calls.{start_or_none}
use Rattle.seal_calls.proofs.Xof.{xof_running_lem, xof_runs_lem, started_bounded}
use Rattle.seal_calls.proofs.make_tag.Goals as goal

pub returns : goal.returns
returns c =
    let a = c.args in
    let key = a.authentication.now in
    let x = a.ciphertext.now ++ a.label.now in
    let n = length a.tag.now in
    let s = c.unwrap_or-start.result in
    let started : StartedBy (keyed key []) s = search (rules, start_or_none) in
    let input = c.absorb_message-blocks in
    let v = input.new.sponge in
    record {
      is = c.squeeze.ensures.1 ∙ ap (squeezed n) (xof_running_lem key [] x s _ v input.result started c.sponge-sponge.ensures input.ensures);
      runs = xof_runs_lem key [] x s _ v input.result started c.sponge-sponge.ensures input.ensures n c.output_runs.result c.output_runs.ensures;
      bounded = started_bounded key [] x s _ v input.result started c.sponge-sponge.ensures input.ensures;
    }
