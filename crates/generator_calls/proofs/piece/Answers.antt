-- The calls make the input of the piece's call (`Inputs.generator_output`); the two squeezes give the new key, then as many bytes as `out` has.
use Rattle.std.proofs.Common.{◌≡◌, ◌+◌, length, refl, ap, ◌∙◌, arith, rules}
use Rattle.sponge.specs.Running.{state_of, squeezed}
use Rattle.start.specs.Started.{StartedBy}
use Rattle.start.proofs.Calls.{start_or_none}
use Rattle.seeding.specs.Seeding.{key_bytes, call_start}
use Rattle.seeding.proofs.Laws.{call_start-accepted}
use Rattle.drng.specs.Calls.{cshake_generate_name, kmac_generate_customisation}
use Rattle.generator_input.specs.Input.{byte_suffixed}
use Rattle.generator_calls.proofs.Inputs.{generator_output, key_part, stream_part}
use Rattle.generator_calls.proofs.piece.Goals as goal

pub returns : goal.returns
returns c =
    let a = c.args in
    let n = length a.out.now in
    let start = c.unwrap_or-start.result in
    let started : StartedBy (call_start a.drng cshake_generate_name kmac_generate_customisation a.old) start = search (rules, start_or_none) in
    let input = c.absorb_input in
    let size : length a.old ≡ key_bytes = search rules in
    let ok = call_start-accepted a.drng cshake_generate_name kmac_generate_customisation a.old (omega arith) refl (omega arith) size in
    let u = state_of input.new.sponge in
    let given =
    generator_output start (byte_suffixed a.additional.now) _ input.new.sponge input.result (key_bytes + n) cshake_generate_name
    kmac_generate_customisation a.old a.drng started ok c.sponge-sponge.ensures input.ensures (key_bytes + n) in
    record {
      key = c.squeeze.ensures.1 ∙ key_part u n _ given;
      stream = c.squeeze-2.ensures.1 ∙ ap (squeezed n) c.squeeze.ensures.0 ∙ stream_part u n _ given;
    }
