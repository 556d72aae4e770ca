-- The calls make the input of the call whose output is the new key (`Inputs.generator_output`).
use Rattle.std.proofs.Common.{◌≡◌, ◌<◌, ◌^◌, ◌++◌, length, refl, ◌∙◌, arith, rules}
use Rattle.start.specs.Started.{StartedBy}
use Rattle.start.proofs.Calls.{start_or_none}
use Rattle.seeding.specs.Seeding.{key_bytes, call_start, cshake_seed_name, kmac_seed_customisation}
use Rattle.seeding.proofs.Laws.{call_start-accepted}
use Rattle.generator_input.specs.Input.{byte_suffixed}
use Rattle.generator_calls.proofs.Inputs.{generator_output, generator_runs, runs_fit}
use Rattle.generator_calls.proofs.new_key.Goals as goal

pub returns : goal.returns
returns c =
    let a = c.args in
    let x = a.seed.now ++ byte_suffixed a.personalisation.now in
    let start = c.unwrap_or-start.result in
    let started : StartedBy (call_start a.drng cshake_seed_name kmac_seed_customisation a.old) start = search (rules, start_or_none) in
    let input = c.absorb_input-blocks in
    let size : length a.old ≡ key_bytes = search rules in
    let ok = call_start-accepted a.drng cshake_seed_name kmac_seed_customisation a.old (omega arith) refl (omega arith) size in
    let given =
    generator_output start x _ input.new.sponge input.result key_bytes cshake_seed_name kmac_seed_customisation a.old a.drng started ok
    c.sponge-sponge.ensures
    input.ensures key_bytes in
    let counted =
    generator_runs start x _ input.new.sponge input.result key_bytes cshake_seed_name kmac_seed_customisation a.old a.drng started ok
    c.sponge-sponge.ensures
    input.ensures in
    record {
      key = c.squeeze.ensures.1 ∙ given;
      runs = omega (arith, counted);
    }

pub overflow_add-result : goal.overflow_add-result
overflow_add-result c =
    let seed : length c.args.seed.now < 2 ^ 64 = omega arith in
    let personalisation : length c.args.personalisation.now < 2 ^ 64 = omega arith in
    let started : StartedBy (call_start c.args.drng cshake_seed_name kmac_seed_customisation c.args.old) c.unwrap_or-start.result
    = search (rules, start_or_none) in
    runs_fit c.args.drng started c.args.seed.now c.args.personalisation.now c.absorb_input-blocks.ensures seed personalisation
