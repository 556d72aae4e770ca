-- A session as C sees it: the phase is a number, 0 for taking and 1 for giving, with its position beside it. Read back, any number but 0 is giving.
use Rattle.std.specs.Prelude.{ℕ, cond, eqb}
use Rattle.answers.specs.Done.{answer_number}
use Rattle.session_state.specs.declared.Phase.{Phase}
use Rattle.session_state.specs.declared.Phase.TheVariants.{Taking, Giving}
use Rattle.session_state.specs.declared.Session.{Session}
use Rattle.answers.specs.declared.Refusal.{Refusal}
use Rattle.session_state.specs.declared.SessionAnswer.{SessionAnswer}
use Rattle.c_flag.specs.Flag.{flag, is_set}
use Rattle.c_session_state.specs.declared.CSession.{CSession}
use Rattle.c_session_state.specs.declared.CSessionAnswer.{CSessionAnswer}

abbrev pub phase_number : Phase → ℕ
phase_number (Taking p) = 0
phase_number (Giving p) = 1

abbrev pub phase_position : Phase → ℕ
phase_position (Taking p) = p
phase_position (Giving p) = p

abbrev pub imported_phase : (number position : ℕ) → Phase
imported_phase n p = cond (eqb n 0) (Taking p) (Giving p)

abbrev pub exported_session : Session → CSession
exported_session s =
    record {
      lanes = s.lanes;
      taken = s.taken;
      given = s.given;
      limit = s.limit;
      position = phase_position s.phase;
      phase = phase_number s.phase;
      suffix = s.suffix;
      kmac = flag s.kmac;
    }

abbrev pub imported_session : CSession → Session
imported_session s =
    record {
      lanes = s.lanes;
      phase = imported_phase s.phase s.position;
      taken = s.taken;
      given = s.given;
      limit = s.limit;
      suffix = s.suffix;
      kmac = is_set s.kmac;
    }

abbrev pub c_session_answer : ℕ → CSession → CSessionAnswer
c_session_answer k s = record { session = s; number = k }

abbrev pub exported_answer : SessionAnswer Refusal → CSessionAnswer
exported_answer a = c_session_answer (answer_number a.answer) (exported_session a.session)
