-- The calls make KMACXOF256 of an empty message (`Xof`); the authentication key is squeezed, and the sponge goes on from there.
use Rattle.std.proofs.Common.{[], ◌+◌, ap, ◌∙◌, rules}
use Rattle.calls.specs.Start.{keyed}
use Rattle.sponge.specs.Running.{squeezed, after}
use Rattle.start.specs.Started.{StartedBy}
use Rattle.start.proofs.Calls.{start_or_none}
use Rattle.aead.specs.Limits.{authentication_key_length}
use Rattle.seal_calls.specs.SealCalls.{sponge_at}
use Rattle.seal_calls.proofs.Xof.{xof_running_lem, xof_runs_lem, started_bounded}
use Rattle.seal_calls.proofs.begin_stream.Goals as goal

pub returns : goal.returns
returns c =
    let key = c.args.key.now in
    let iv = c.args.iv.now in
    let s = c.unwrap_or-start.result in
    let started : StartedBy (keyed key iv) s = search (rules, start_or_none) in
    let input = c.absorb_message-blocks in
    let v = input.new.sponge in
    let is = xof_running_lem key iv [] s _ v input.result started c.sponge-sponge.ensures input.ensures in
    let given = c.squeeze.ensures.1 ∙ ap (squeezed authentication_key_length) is in
    let rest = ap sponge_at (c.squeeze.ensures.0 ∙ ap (after authentication_key_length) is) in
    let counted = xof_runs_lem key iv [] s _ v input.result started c.sponge-sponge.ensures input.ensures (authentication_key_length + c.args.n)
    c.stream_share.result
    c.stream_share.ensures in
    record {
      is = λ i. record { authentication = given i; sponge = rest i; runs = counted i };
      bounded = started_bounded key iv [] s _ v input.result started c.sponge-sponge.ensures input.ensures;
    }
