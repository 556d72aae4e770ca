-- How one call on a session goes, for any session: it is refused and changes nothing, or it takes a piece, or it gives bytes.
use mathlib.Core.Path.{◌≡◌, refl}
use mathlib.Core.Bool.{Bool, true, false}
use mathlib.Core.List.{List, [], ◌∷◌}
use Prim.Native.Nat.{ℕ, suc, ◌+◌, ◌%◌, ◌≤◌}
use borrow.Author.Tests.{ltb-false}
use lib.Dec.{ltb}
use lib.ListN.{length}
use Rattle.encode.specs.Padding.{rate}
use Rattle.calls.specs.Limits.{max_message}
use Rattle.sponge.specs.Running.{running, absorbed, squeezed, after}
use Rattle.session_state.specs.declared.Phase.{Phase}
use Rattle.session_state.specs.declared.Phase.TheVariants.{Taking, Giving}
use Rattle.session_state.specs.declared.Session.{Session}
use Rattle.session_state.specs.Session.{session_answer, after_taking, taking_in, giving_sponge, after_giving, giving, filled}
use Rattle.session.specs.History.{SessionCall, takes, gives, called}

-- the session after a piece, or after an ask, that was accepted
abbrev pub took_to : Session → ℕ → List ℕ → Session
took_to s p m = after_taking s (length m) (absorbed (running s.lanes (p % rate)) m)

abbrev pub gave_to : Session → List ℕ → Session
gave_to s out = after_giving s (length out) (after (length out) (giving_sponge s.phase s))

pub data CallCase (s : Session) : SessionCall → Type 0 where
  refused : {c : SessionCall} (k : ℕ) → called s c ≡ session_answer (suc k) s → CallCase s c
  took : {m : List ℕ} (p : ℕ) → s.phase ≡ Taking p → s.taken + length m ≤ max_message
      → called s (takes m) ≡ session_answer 0 (took_to s p m) → CallCase s (takes m)
  gave : {out : List ℕ} → s.given + length out ≤ s.limit
      → called s (gives out) ≡ session_answer 0 (gave_to s out)
      → filled s out ≡ squeezed (length out) (giving_sponge s.phase s) → CallCase s (gives out)

take_case : (s : Session) (m : List ℕ) (p : ℕ) (b : Bool) → s.phase ≡ Taking p → ltb max_message (s.taken + length m) ≡ b → CallCase s (takes m)
unfolding called taking_in
take_case s m p true h e = refused {c = takes m} 4 (rw (h, e))
take_case s m p false h e = took {m = m} p h (ltb-false max_message (s.taken + length m) e) (rw (h, e))

phase_case : (s : Session) (m : List ℕ) (ph : Phase) → s.phase ≡ ph → CallCase s (takes m)
unfolding called taking_in
phase_case s m (Taking p) h = take_case s m p (ltb max_message (s.taken + length m)) h refl
phase_case s m (Giving p) h = refused {c = takes m} 0 (rw h)

give_case : (s : Session) (out : List ℕ) (b : Bool) → ltb s.limit (s.given + length out) ≡ b → CallCase s (gives out)
unfolding called giving filled
give_case s out true e = refused {c = gives out} 5 (rw e)
give_case s out false e = gave {out = out} (ltb-false s.limit (s.given + length out) e) (rw e) (rw e)

pub call_case : (s : Session) (c : SessionCall) → CallCase s c
call_case s (takes m) = phase_case s m s.phase refl
call_case s (gives out) = give_case s out (ltb s.limit (s.given + length out)) refl

-- what holds of no calls, and of a call and those after it by how it goes, holds of any calls
pub by_case : (P : List SessionCall → Session → Type 0) → ((s : Session) → P [] s)
    → ((c : SessionCall) (cs : List SessionCall) (s : Session) → CallCase s c → ((t : Session) → P cs t) → P (c ∷ cs) s)
    → (cs : List SessionCall) (s : Session) → P cs s
by_case P none one [] s = none s
by_case P none one (c ∷ cs) s = one c cs s (call_case s c) (by_case P none one cs)
