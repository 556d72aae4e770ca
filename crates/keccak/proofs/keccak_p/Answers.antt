-- Out of its places a state is what it was before them (`Turns.state_of-columns`); the 24 rounds with their constants are the permutation.
use Rattle.std.proofs.Common.{rules, ap, ◌∙◌}
use Rattle.in_place.specs.Rounds.{rounds_with}
use Rattle.in_place.specs.Laws.Turns.{permutation, state_of-columns}
use Rattle.keccak.proofs.keccak_p.Goals as goal

pub returns : goal.returns
returns c =
    let a = c.args.a in
    let k = c.constants-k.result in
    c.joined.ensures
    ∙ c.rounds.ensures
    ∙ ap (rounds_with 24 k) (state_of-columns a c.of-c.result.evens c.of-c.result.odds c.of-c.ensures.evens c.of-c.ensures.odds (search rules))
    ∙ permutation k a c.constants-k.ensures
