-- What a session takes and gives in all stays within its limits, for any session.
use Prim.Native.Nat.{◌+◌, ◌≤◌}
use mathlib.Core.List.{List, [], ◌∷◌}
use native.Mathlib.Omega.{arith}
use lib.ListN.{length, length-append}
use Rattle.calls.specs.Limits.{max_message}
use Rattle.sponge.specs.Running.{Running, squeezed}
use Rattle.sponge.proofs.Squeezing.{length_squeezed}
use Rattle.session_state.specs.declared.Session.{Session}
use Rattle.session_state.specs.Session.{giving_sponge}
use Rattle.session.specs.History.{SessionCall, accepted_pieces, output}
use Rattle.session.proofs.CallCase.{took_to, gave_to, CallCase, refused, took, gave, by_case}

abbrev TakesWithin : List SessionCall → Session → Type 0
TakesWithin cs s = s.taken ≤ max_message → s.taken + length (accepted_pieces s cs) ≤ max_message

takes_within_none : (s : Session) → TakesWithin [] s
unfolding accepted_pieces
takes_within_none s h = omega arith

takes_within_one : (c : SessionCall) (cs : List SessionCall) (s : Session) → CallCase s c → ((t : Session) → TakesWithin cs t) → TakesWithin (c ∷ cs) s
unfolding accepted_pieces
takes_within_one c cs s (refused k e) ih h = rw e (ih s h)
takes_within_one c cs s (took {m} p ph bounded e) ih h = rw e (omega (arith, ih (took_to s p m) bounded, length-append m (accepted_pieces (took_to s p m) cs)))
takes_within_one c cs s (gave {out} bounded e f) ih h = rw e (ih (gave_to s out) h)

pub takes_within : (cs : List SessionCall) (s : Session) → TakesWithin cs s
takes_within = by_case TakesWithin takes_within_none takes_within_one

abbrev GivesWithin : List SessionCall → Session → Type 0
GivesWithin cs s = s.given ≤ s.limit → s.given + length (output s cs) ≤ s.limit

gives_within_none : (s : Session) → GivesWithin [] s
unfolding output
gives_within_none s h = omega arith

gives_within_one : (c : SessionCall) (cs : List SessionCall) (s : Session) → CallCase s c → ((t : Session) → GivesWithin cs t) → GivesWithin (c ∷ cs) s
unfolding output
gives_within_one c cs s (refused k e) ih h = rw e (ih s h)
gives_within_one c cs s (took {m} p ph bounded e) ih h = rw e (ih (took_to s p m) h)
gives_within_one c cs s (gave {out} bounded e f) ih h =
    let from : Running = giving_sponge s.phase s in
    rw (e, f)
    (omega (arith, ih (gave_to s out) bounded, length-append (squeezed (length out) from) (output (gave_to s out) cs), length_squeezed (length out) from))

pub gives_within : (cs : List SessionCall) (s : Session) → GivesWithin cs s
gives_within = by_case GivesWithin gives_within_none gives_within_one
