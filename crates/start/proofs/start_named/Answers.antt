-- The bytepad is the prefix (`Answers.named_starts`).
use Rattle.std.proofs.Common.{rules, sym, arith, ap, ◌∙◌, ◌≡◌, ◌+◌, length}
use Rattle.std.proofs.lemmas.Grind.{common_steps}
use Rattle.sponge.specs.Running.{Running, running}
use Rattle.start.proofs.Answers.{refused_starts, named_starts}
use Rattle.start.proofs.start_named.Goals as goal
use Rattle.start.proofs.start_named.Goals.{else-is_empty-via-then-is_empty+else-is_empty-2, else-is_empty-via-else-is_empty}

pub returns-in_err-check_named : goal.returns-in_err-check_named
returns-in_err-check_named c = refused_starts _ c.in_err-check_named.field-0.0 _ (sym c.check_named.ensures ∙ c.in_err-check_named.was) (search rules)

pub returns : goal.returns
returns c =
    let a = c.args in
    let x = c.absorb_name-blocks in
    let some : length a.name.now + length a.customisation.now ≡ 0 → ⊥
    = λ e.
    elim c.else-is_empty.branch [
      | else-is_empty-via-then-is_empty+else-is_empty-2 w ↦ grind (arith, common_steps)
      | else-is_empty-via-else-is_empty w ↦ grind (arith, common_steps)
    ] in
    named_starts a.name.now a.customisation.now c.new-sponge.result x.new.sponge x.result
    (ap (λ (s : Running). running s.lanes 0) c.new-sponge.ensures) (sym c.check_named.ensures ∙ c.in_ok-check_named.was) some x.ensures
