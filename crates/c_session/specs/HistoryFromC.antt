-- Calls in a row from C, each on the session that the call before it handed back: their numbers, the accepted pieces, joined, and the bytes given, joined.
use Rattle.std.specs.Prelude.{List, [], ◌∷◌, ◌++◌, ℕ}
use Rattle.answers.specs.Done.{if_done}
use Rattle.calls.specs.Start.{Start}
use Rattle.session_state.specs.Session.{begun}
use Rattle.session.specs.History.{SessionCall, called, piece_of, given_by}
use Rattle.c_session_state.specs.Session.{imported_session, exported_answer}
use Rattle.c_session_state.specs.declared.CSession.{CSession}
use Rattle.c_session_state.specs.declared.CSessionAnswer.{CSessionAnswer}

-- what `start_cshake256` and `start_kmacxof256` hand back, and what `take` and `give` do
abbrev pub c_begun : Start → CSessionAnswer
c_begun s = exported_answer (begun s)

abbrev pub c_called : CSession → SessionCall → CSessionAnswer
c_called s c = exported_answer (called (imported_session s) c)

unfoldable pub c_session_after : CSession → List SessionCall → CSession
c_session_after s [] = s
c_session_after s (c ∷ cs) = c_session_after (c_called s c).session cs

unfoldable pub c_numbers : CSession → List SessionCall → List ℕ
c_numbers s [] = []
c_numbers s (c ∷ cs) = (c_called s c).number ∷ c_numbers (c_called s c).session cs

-- the accepted pieces, joined
unfoldable pub c_pieces : CSession → List SessionCall → List ℕ
c_pieces s [] = []
c_pieces s (c ∷ cs) = if_done (c_called s c).number (piece_of c) [] ++ c_pieces (c_called s c).session cs

-- the bytes given, joined
unfoldable pub c_output : CSession → List SessionCall → List ℕ
c_output s [] = []
c_output s (c ∷ cs) = if_done (c_called s c).number (given_by (imported_session s) c) [] ++ c_output (c_called s c).session cs
