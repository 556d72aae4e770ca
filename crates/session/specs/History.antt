-- Calls in a row on one session, accepted and refused: their numbers, the accepted pieces, joined, and the bytes given, joined.
use Rattle.std.specs.Prelude.{Bool, true, cond, List, [], ◌∷◌, ◌++◌, ℕ, ◌+◌, ltb, length, is_ok}
use Rattle.answers.specs.Numbers.{done, wrong_state, input_too_long, bad_output_length}
use Rattle.answers.specs.Done.{answer_number}
use Rattle.calls.specs.Limits.{max_message, max_output}
use Rattle.session_state.specs.declared.Session.{Session}
use Rattle.answers.specs.declared.Refusal.{Refusal}
use Rattle.session_state.specs.declared.SessionAnswer.{SessionAnswer}
use Rattle.session_state.specs.Session.{taking, giving, filled}

-- a piece lent to `take`, or an output lent to `give`, as it was before
pub data SessionCall : Type 0 where
  takes : (piece : List ℕ) → SessionCall
  gives : (out : List ℕ) → SessionCall

-- what a call hands back
unfoldable pub called : Session → SessionCall → SessionAnswer Refusal
called s (takes m) = taking s m
called s (gives out) = giving s (length out)

-- the bytes that a call puts in
abbrev pub piece_of : SessionCall → List ℕ
piece_of (takes m) = m
piece_of (gives out) = []

-- the bytes that a call hands out
abbrev pub given_by : Session → SessionCall → List ℕ
given_by s (takes m) = []
given_by s (gives out) = filled s out

unfoldable pub session_after : Session → List SessionCall → Session
session_after s [] = s
session_after s (c ∷ cs) = session_after (called s c).session cs

unfoldable pub numbers : Session → List SessionCall → List ℕ
numbers s [] = []
numbers s (c ∷ cs) = answer_number (called s c).answer ∷ numbers (called s c).session cs

-- the accepted pieces, joined: a refused call counts for nothing
unfoldable pub accepted_pieces : Session → List SessionCall → List ℕ
accepted_pieces s [] = []
accepted_pieces s (c ∷ cs) = cond (is_ok (called s c).answer) (piece_of c) [] ++ accepted_pieces (called s c).session cs

-- the bytes given, joined
unfoldable pub output : Session → List SessionCall → List ℕ
output s [] = []
output s (c ∷ cs) = cond (is_ok (called s c).answer) (given_by s c) [] ++ output (called s c).session cs

-- The table's numbers (docs/RULES.md, 'Numbers') for calls in a row, by what was accepted before: whether the session is giving, for which
-- an ask for no bytes is enough, and the totals taken and given.
unfoldable pub table_numbers : Bool → ℕ → ℕ → List SessionCall → List ℕ
table_numbers is_giving t g [] = []
table_numbers is_giving t g (takes m ∷ cs) =
    cond is_giving (wrong_state ∷ table_numbers is_giving t g cs)
    (cond (ltb max_message (t + length m)) (input_too_long ∷ table_numbers is_giving t g cs) (done ∷ table_numbers is_giving (t + length m) g cs))
table_numbers is_giving t g (gives out ∷ cs) =
    cond (ltb max_output (g + length out)) (bad_output_length ∷ table_numbers is_giving t g cs) (done ∷ table_numbers true t (g + length out) cs)
