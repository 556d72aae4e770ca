-- A turn is two rounds (`Turns.two_rounds`).
use Rattle.std.proofs.Common.{refl, arith}
use Rattle.in_place.specs.Places.{lanes}
use Rattle.in_place.specs.Rounds.{first_row, state_of, rounds_with}
use Rattle.in_place.specs.Laws.Turns.{two_rounds}
use Rattle.keccak_rounds.proofs.turns.Goals as goal

pub loop-i-init : goal.loop-i-init
unfolding first_row lanes rounds_with
loop-i-init c = record { row = refl; state = refl }

pub loop-i-preserved : goal.loop-i-preserved
loop-i-preserved c =
    let a = c.args in
    two_rounds a.k.now (state_of a.p.now a.q.now) c.loop-i.i (omega arith) _ _ _ _ _ _
    c.known.ensures c.known-in-loop-i.ensures c.loop-i.invariant
    c.even-u.ensures.0 c.even-u.ensures.1 c.odd-t.ensures.0 c.odd-t.ensures.1
