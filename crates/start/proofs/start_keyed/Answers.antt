-- The two bytepads make the prefix (`Answers.keyed_starts`).
use Rattle.std.proofs.Common.{rules, sym, ap, ◌∙◌}
use Rattle.sponge.specs.Running.{Running, running}
use Rattle.start.proofs.Answers.{refused_starts, keyed_starts}
use Rattle.start.proofs.start_keyed.Goals as goal

pub returns-in_err-check_keyed : goal.returns-in_err-check_keyed
returns-in_err-check_keyed c = refused_starts _ c.in_err-check_keyed.field-0.0 _ (sym c.check_keyed.ensures ∙ c.in_err-check_keyed.was) (search rules)

pub returns : goal.returns
returns c =
    let a = c.args in
    let x = c.absorb_kmac-name_blocks in
    let y = c.absorb_key-key_blocks in
    keyed_starts a.key.now a.customisation.now c.new-sponge.result x.new.sponge y.new.sponge x.result y.result
    (ap (λ (s : Running). running s.lanes 0) c.new-sponge.ensures) (sym c.check_keyed.ensures ∙ c.in_ok-check_keyed.was) x.ensures y.ensures
