-- What the crate `session` says of a session that could not start holds of the one that C has, which is that session, lent again (`Back`).
use mathlib.Core.Path.{ap, ◌∙◌}
use Rattle.calls.specs.Start.{Start}
use Rattle.session_state.specs.declared.Session.{Session}
use Rattle.session_state.specs.Session.{begun, taking, giving, filled}
use Rattle.session.specs.Unstarted.{Unstarted}
use Rattle.session.proofs.Unstarted.{could_not_start}
use Rattle.c_session_state.specs.Session.{exported_answer}
use Rattle.c_session.specs.UnstartedFromC.{UnstartedFromC, CouldNotStartFromC}
use Rattle.c_session.proofs.Back.{session_back}

carried : (s : Start) → Unstarted s → UnstartedFromC s
carried s h =
    let back = session_back (begun s).session in
    record {
      number = h.number;
      take = λ m. ap (λ (t : Session). exported_answer (taking t m)) back ∙ ap exported_answer (h.take m);
      give_none = ap (λ (t : Session). exported_answer (giving t 0)) back ∙ ap exported_answer h.give_none;
      give = λ n some. ap (λ (t : Session). exported_answer (giving t n)) back ∙ ap exported_answer (h.give n some);
      unwritten = λ out. ap (λ (t : Session). filled t out) back ∙ h.unwritten out;
    }

pub could_not_start_from_c : CouldNotStartFromC
could_not_start_from_c s some = carried s (could_not_start s some)
