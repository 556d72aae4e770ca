-- A session that could not start (docs/RULES.md, 'Numbers'), as C has it: giving, with nothing to give. It is proved in proofs/Unstarted.antt.
use Rattle.std.specs.Prelude.{◌≡◌, List, ℕ, ◌<◌}
use Rattle.answers.specs.Numbers.{done, wrong_state, bad_output_length}
use Rattle.calls.specs.Start.{Start, start_refusal}
use Rattle.session_state.specs.Session.{taking, giving, filled}
use Rattle.c_session_state.specs.Session.{imported_session, c_session_answer, exported_answer}
use Rattle.c_session.specs.HistoryFromC.{c_begun}

-- whatever it is asked for, it stays as it is and writes nothing
pub record UnstartedFromC (s : Start) : Type 0 where
  pub number : (c_begun s).number ≡ start_refusal s
  pub take : (m : List ℕ) → exported_answer (taking (imported_session (c_begun s).session) m) ≡ c_session_answer wrong_state (c_begun s).session
  pub give_none : exported_answer (giving (imported_session (c_begun s).session) 0) ≡ c_session_answer done (c_begun s).session
  pub give : (n : ℕ) → 0 < n → exported_answer (giving (imported_session (c_begun s).session) n) ≡ c_session_answer bad_output_length (c_begun s).session
  pub unwritten : (out : List ℕ) → filled (imported_session (c_begun s).session) out ≡ out

-- for every start that is refused
abbrev pub CouldNotStartFromC : Type 0
CouldNotStartFromC = (s : Start) → (start_refusal s ≡ 0 → ⊥) → UnstartedFromC s
