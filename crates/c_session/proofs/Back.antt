-- What C was handed, lent again, is the session that the crate `session` handed back; so are calls in a row.
use mathlib.Core.Path.{◌≡◌, refl, ap}
use mathlib.Core.List.{List, [], ◌∷◌, ◌++◌}
use Prim.Native.Nat.{ℕ}
use Rattle.std.specs.Prelude.{cond, Result, Ok, Err, is_ok}
use Rattle.answers.specs.Numbers.{number_of}
use Rattle.answers.specs.Done.{if_done, answer_number}
use Rattle.answers.specs.declared.Refusal.{Refusal}
use Rattle.answers.specs.declared.Refusal.TheVariants.{
  WrongState,
  BadKeyLength,
  StringTooLong,
  ReservedName,
  InputTooLong,
  BadOutputLength,
  BadTagLength,
  TagMismatch,
  MalformedPlan,
  NoSuchChute,
}
use Rattle.session_state.specs.declared.Phase.{Phase}
use Rattle.session_state.specs.declared.Phase.TheVariants.{Taking, Giving}
use Rattle.session_state.specs.declared.Session.{Session}
use Rattle.session.specs.History.{SessionCall, called, piece_of, given_by, session_after, numbers, accepted_pieces, output}
use Rattle.c_flag.specs.FlagLaws.{flag_back}
use Rattle.c_session_state.specs.Session.{phase_number, phase_position, imported_phase, exported_session, imported_session}
use Rattle.c_session.specs.HistoryFromC.{c_session_after, c_numbers, c_pieces, c_output}

phase_back : (p : Phase) → imported_phase (phase_number p) (phase_position p) ≡ p
phase_back (Taking at) = refl
phase_back (Giving at) = refl

pub session_back : (s : Session) → imported_session (exported_session s) ≡ s
session_back s = rw (phase_back s.phase, flag_back s.kmac)

pub after_back : (s : Session) (cs : List SessionCall) → c_session_after (exported_session s) cs ≡ exported_session (session_after s cs)
unfolding c_session_after session_after
after_back s [] = refl
after_back s (c ∷ cs) = rw (session_back s) (after_back (called s c).session cs)

pub numbers_back : (s : Session) (cs : List SessionCall) → c_numbers (exported_session s) cs ≡ numbers s cs
unfolding c_numbers numbers
numbers_back s [] = refl
numbers_back s (c ∷ cs) = rw (session_back s) (ap (λ (l : List ℕ). answer_number (called s c).answer ∷ l) (numbers_back (called s c).session cs))

-- a call is done exactly where C's number is 0
done_back : (r : Result (Unit {0}) Refusal) (new old : List ℕ) → if_done (answer_number r) new old ≡ cond (is_ok r) new old
done_back (Ok u) new old = refl
done_back (Err e) new old = refused_back e
  where
    refused_back : (e : Refusal) → if_done (number_of e) new old ≡ old
    refused_back WrongState = refl
    refused_back BadKeyLength = refl
    refused_back StringTooLong = refl
    refused_back ReservedName = refl
    refused_back InputTooLong = refl
    refused_back BadOutputLength = refl
    refused_back BadTagLength = refl
    refused_back TagMismatch = refl
    refused_back MalformedPlan = refl
    refused_back NoSuchChute = refl

pub pieces_back : (s : Session) (cs : List SessionCall) → c_pieces (exported_session s) cs ≡ accepted_pieces s cs
unfolding c_pieces accepted_pieces
pieces_back s [] = refl
pieces_back s (c ∷ cs) =
    rw (session_back s) (λ i. done_back (called s c).answer (piece_of c) [] i ++ pieces_back (called s c).session cs i)

pub output_back : (s : Session) (cs : List SessionCall) → c_output (exported_session s) cs ≡ output s cs
unfolding c_output output
output_back s [] = refl
output_back s (c ∷ cs) =
    rw (session_back s) (λ i. done_back (called s c).answer (given_by s c) [] i ++ output_back (called s c).session cs i)
