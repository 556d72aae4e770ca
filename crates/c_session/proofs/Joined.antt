-- The joined_bytes rule of the crate `session`, carried over call by call (`Back`).
use mathlib.Core.Path.{ap, ◌∙◌}
use mathlib.Core.List.{List, []}
use Rattle.calls.specs.Start.{Start}
use Rattle.session_state.specs.declared.Session.{Session}
use Rattle.session_state.specs.Session.{begun, taking}
use Rattle.session.specs.History.{SessionCall, session_after}
use Rattle.session.specs.Joined.{JoinedBytes}
use Rattle.session.proofs.Joined.{joined_bytes}
use Rattle.c_session_state.specs.Session.{exported_session}
use Rattle.c_session.specs.JoinedFromC.{JoinedBytesFromC, JoinedFromC}
use Rattle.c_session.proofs.Back.{session_back, after_back, numbers_back, pieces_back, output_back}

carried : (s : Start) (cs : List SessionCall) → JoinedBytes s cs → JoinedBytesFromC s cs
carried s cs h =
    let t = (begun s).session in
    let last : Session = session_after t cs in
    record {
      started = h.started;
      numbered = rw (numbers_back t cs) h.numbered;
      empty_piece = rw (after_back t cs) (ap (λ (u : Session). exported_session (taking u []).session) (session_back last) ∙ ap exported_session h.empty_piece);
      acceptable = rw (pieces_back t cs, output_back t cs) h.acceptable;
      joined = rw (pieces_back t cs, output_back t cs) h.joined;
    }

pub joined_from_c : JoinedFromC
joined_from_c s ok cs = carried s cs (joined_bytes s ok cs)
