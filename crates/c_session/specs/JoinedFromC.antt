-- The joined-bytes rule (docs/RULES.md, 'Sessions') of calls from C, each on the session that the call before it handed back, from what a start handed back
-- on. It is proved in proofs/Joined.antt.
use Rattle.std.specs.Prelude.{false, ◌≡◌, List, [], ℕ, ◌≤◌, length, take}
use Rattle.calls.specs.Start.{Start, start_refusal}
use Rattle.calls.specs.Call.{Accepted, fed, extendable_call}
use Rattle.sponge.specs.Sponge.{sponge}
use Rattle.session_state.specs.Session.{taking}
use Rattle.session.specs.History.{SessionCall, table_numbers}
use Rattle.c_session_state.specs.Session.{imported_session, exported_answer}
use Rattle.c_session.specs.HistoryFromC.{c_begun, c_session_after, c_numbers, c_pieces, c_output}

-- for the calls cs from the start s: the accepted pieces, joined, and the bytes given, joined
abbrev pub c_joined_pieces : Start → List SessionCall → List ℕ
c_joined_pieces s cs = c_pieces (c_begun s).session cs

abbrev pub c_joined_output : Start → List SessionCall → List ℕ
c_joined_output s cs = c_output (c_begun s).session cs

pub record JoinedBytesFromC (s : Start) (cs : List SessionCall) : Type 0 where
  -- the start is answered with 0, and each call with the table's number
  pub started : (c_begun s).number ≡ 0
  pub numbered : c_numbers (c_begun s).session cs ≡ table_numbers false 0 0 cs
  -- an empty piece after them changes nothing in the session that C has
  pub empty_piece : (exported_answer (taking (imported_session (c_session_after (c_begun s).session cs)) [])).session ≡ c_session_after (c_begun s).session cs
  -- the one-shot call over the accepted pieces, for as many bytes as were given, is accepted
  pub acceptable : Accepted (extendable_call s (c_joined_pieces s cs) (length (c_joined_output s cs)))
  -- and the bytes given are the first bytes of its answer, which a longer output begins with too
  pub joined : (d : ℕ) → length (c_joined_output s cs) ≤ d
      → c_joined_output s cs ≡ take (length (c_joined_output s cs)) (sponge (fed (extendable_call s (c_joined_pieces s cs) d)) d)

-- for every start that is accepted and any calls in any order
abbrev pub JoinedFromC : Type 0
JoinedFromC = (s : Start) → start_refusal s ≡ 0 → (cs : List SessionCall) → JoinedBytesFromC s cs
