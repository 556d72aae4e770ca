-- The joined-bytes rule (docs/RULES.md, 'Sessions'): 'for any order of calls from an accepted start, the bytes given, joined, are the first bytes of
-- the one-shot answer over the accepted pieces, joined'. It is proved in proofs/Joined.antt.
use Rattle.std.specs.Prelude.{false, ◌≡◌, List, [], ℕ, ◌≤◌, length, take}
use Rattle.answers.specs.Done.{answer_number}
use Rattle.calls.specs.Start.{Start, start_refusal}
use Rattle.calls.specs.Call.{Accepted, fed, extendable_call}
use Rattle.sponge.specs.Sponge.{sponge}
use Rattle.session_state.specs.Session.{begun, taking}
use Rattle.session.specs.History.{SessionCall, session_after, numbers, accepted_pieces, output, table_numbers}

-- for the calls cs from the start s: the accepted pieces, joined, and the bytes given, joined
abbrev pub joined_pieces : Start → List SessionCall → List ℕ
joined_pieces s cs = accepted_pieces (begun s).session cs

abbrev pub joined_output : Start → List SessionCall → List ℕ
joined_output s cs = output (begun s).session cs

pub record JoinedBytes (s : Start) (cs : List SessionCall) : Type 0 where
  -- the start is answered with 0
  pub started : answer_number (begun s).answer ≡ 0
  -- and each call with the table's number
  pub numbered : numbers (begun s).session cs ≡ table_numbers false 0 0 cs
  -- an empty piece after them changes nothing
  pub empty_piece : (taking (session_after (begun s).session cs) []).session ≡ session_after (begun s).session cs
  -- the one-shot call over the accepted pieces, for as many bytes as were given, is accepted
  pub acceptable : Accepted (extendable_call s (joined_pieces s cs) (length (joined_output s cs)))
  -- and the bytes given are the first bytes of its answer, which a longer output begins with too
  pub joined : (d : ℕ) → length (joined_output s cs) ≤ d
      → joined_output s cs ≡ take (length (joined_output s cs)) (sponge (fed (extendable_call s (joined_pieces s cs) d)) d)

-- for every start that is accepted, and any calls in any order
abbrev pub JoinedBytesRule : Type 0
JoinedBytesRule = (s : Start) → start_refusal s ≡ 0 → (cs : List SessionCall) → JoinedBytes s cs
