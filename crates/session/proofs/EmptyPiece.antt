-- An empty piece changes nothing in a session that calls have led to: its position is below the rate, and its total within the limit.
use mathlib.Core.Path.{◌≡◌, refl, sym, ap, subst, ◌∙◌}
use mathlib.Core.Bool.{Bool, cond}
use mathlib.Core.List.{List, [], ◌∷◌}
use Prim.Native.Nat.{ℕ, ◌+◌, ◌%◌, ◌<◌, ◌≤◌}
use native.Mathlib.Nat.{mod-eq_of_lt, add-zero}
use native.Mathlib.Omega.{arith}
use borrow.Author.Tests.{le-ltb}
use lib.ListN.{length}
use Rattle.encode.specs.Padding.{rate}
use Rattle.calls.specs.Limits.{max_message}
use Rattle.sponge.specs.Running.{Running, running, absorbed}
use Rattle.sponge.proofs.Whole.{absorbed_position}
use Rattle.session_state.specs.declared.Phase.{Phase}
use Rattle.session_state.specs.declared.Phase.TheVariants.{Taking, Giving}
use Rattle.session_state.specs.declared.Session.{Session}
use Rattle.answers.specs.declared.Refusal.{Refusal}
use Rattle.session_state.specs.declared.SessionAnswer.{SessionAnswer}
use Rattle.session_state.specs.Session.{session_answer, after_taking, taking_in, taking}
use Rattle.session.specs.History.{SessionCall, session_after}
use Rattle.session.proofs.CallCase.{took_to, gave_to, CallCase, refused, took, gave, by_case}

-- of a session that is taking
abbrev pub Regular : Session → Type 0
Regular s = (p : ℕ) → s.phase ≡ Taking p → (p < rate) × (s.taken ≤ max_message)

abbrev StaysRegular : List SessionCall → Session → Type 0
StaysRegular cs s = Regular s → Regular (session_after s cs)

stays_none : (s : Session) → StaysRegular [] s
unfolding session_after
stays_none s h = h

took_regular : (s : Session) (p : ℕ) (m : List ℕ) → s.taken + length m ≤ max_message → Regular (took_to s p m)
took_regular s p m bounded q e =
    let u : Running = absorbed (running s.lanes (p % rate)) m in
    let i : q ≡ u.position = cc in
    (omega (arith, absorbed_position m s.lanes (p % rate) (omega arith)), bounded)

gave_regular : (s : Session) (out : List ℕ) → Regular (gave_to s out)
gave_regular s out q e = absurd (let z : ◌≡◌ {A = ℕ} 0 1 = cc in omega arith)

stays_one : (c : SessionCall) (cs : List SessionCall) (s : Session) → CallCase s c → ((t : Session) → StaysRegular cs t) → StaysRegular (c ∷ cs) s
unfolding session_after
stays_one c cs s (refused k e) ih h = subst (λ (t : SessionAnswer Refusal). Regular (session_after t.session cs)) (sym e) (ih s h)
stays_one c cs s (took {m} p ph bounded e) ih h =
    subst (λ (t : SessionAnswer Refusal). Regular (session_after t.session cs)) (sym e) (ih (took_to s p m) (took_regular s p m bounded))
stays_one c cs s (gave {out} bounded e f) ih h =
    subst (λ (t : SessionAnswer Refusal). Regular (session_after t.session cs)) (sym e) (ih (gave_to s out) (gave_regular s out))

pub stays_regular : (cs : List SessionCall) (s : Session) → StaysRegular cs s
stays_regular = by_case StaysRegular stays_none stays_one

-- the session handed back for an empty piece

taken_none : (s : Session) (p : ℕ) → s.phase ≡ Taking p → p < rate → s.taken ≤ max_message → (taking s []).session ≡ s
unfolding taking_in absorbed
taken_none s p e below bounded =
    let i : Taking (p % rate) ≡ s.phase = ap Taking (mod-eq_of_lt below) ∙ sym e in
    let n : s.taken + 0 ≡ s.taken = add-zero s.taken in
    let passed : s.taken + 0 ≤ max_message = omega arith in
    ap (λ (ph : Phase). (taking_in ph s []).session) e
    ∙ ap (λ (b : Bool). (cond b (session_answer 5 s) (session_answer 0 (after_taking s 0 (running s.lanes (p % rate))))).session)
    (le-ltb max_message (s.taken + 0) passed)
    ∙ (λ j. record { lanes = s.lanes; phase = i j; taken = n j; given = s.given; limit = s.limit; suffix = s.suffix; kmac = s.kmac })

giving_none : (s : Session) (p : ℕ) → s.phase ≡ Giving p → (taking s []).session ≡ s
unfolding taking_in
giving_none s p e = ap (λ (ph : Phase). (taking_in ph s []).session) e

pub empty_piece_lem : (s : Session) → Regular s → (taking s []).session ≡ s
empty_piece_lem s h = go s.phase refl
  where
    go : (ph : Phase) → s.phase ≡ ph → (taking s []).session ≡ s
    go (Taking p) e = taken_none s p e (h p e).0 (h p e).1
    go (Giving p) e = giving_none s p e
