-- `t` is row 0, and after i turns the places mean the state after the first 2 i rounds (`Turns.Reached`).
use Rattle.std.proofs.Common.{◌*◌}
use Rattle.in_place.specs.Places.{standing}
use Rattle.in_place.specs.Rounds.{state_of}
use Rattle.in_place.specs.Laws.Turns.{Reached}
use Rattle.keccak_rounds.proofs.turns.Given as goal

abbrev pub invariant-loop-i : goal.invariant-loop-i
invariant-loop-i l = Reached l.k (state_of l.fn.p l.fn.q) (2 * l.i) (standing l.p l.q) l.t
