-- The five stores are the row put in its places, by computation; the row is what `row2` ensures (`Passes.row_passed`).
use Rattle.in_place.specs.Places.{standing}
use Rattle.in_place.specs.Rounds.{taken, put}
use Rattle.in_place.specs.Laws.Passes.{row_passed}
use Rattle.keccak_even.proofs.step2.Goals as goal

pub returns : goal.returns
unfolding put taken
returns c = row_passed 0 2 c.args.d (standing c.args.p.now c.args.q.now) c.row2-e.result c.row2-e.ensures
