-- Running sessions (docs/RULES.md, 'Sessions'): what each call hands back, as a function of the session's value.
-- Of a session that a caller made up by hand docs/RULES.md leaves the result free. Here it is fixed all the same: a position at which the block is full, or
-- beyond, is taken modulo the rate by a taking session and followed by the next block in a giving one; totals and limit are compared as they stand.
use Rattle.std.specs.Prelude.{Bool, true, false, cond, List, [], ℕ, ◌+◌, ◌%◌, ltb, length, replicate, Result, Ok, Err}
use Rattle.answers.specs.Numbers.{done, wrong_state, input_too_long, bad_output_length}
use Rattle.answers.specs.declared.Refusal.{Refusal}
use Rattle.answers.specs.Done.{answered}
use Rattle.encode.specs.Padding.{rate}
use Rattle.encode.specs.Encode.{right_encode}
use Rattle.calls.specs.Limits.{max_message, max_output}
use Rattle.calls.specs.Start.{Start, named, keyed}
use Rattle.sponge.specs.Running.{Running, running, absorbed, finished, squeezed, after}
use Rattle.start.specs.declared.Started.{Started}
use Rattle.start.specs.Started.{started}
use Rattle.session_state.specs.declared.Phase.{Phase}
use Rattle.session_state.specs.declared.Phase.TheVariants.{Taking, Giving}
use Rattle.session_state.specs.declared.Session.{Session}
use Rattle.session_state.specs.declared.SessionAnswer.{SessionAnswer}

-- by the number of a call
abbrev pub session_answer : ℕ → Session → SessionAnswer Refusal
session_answer k s = record { answer = answered k (tt {0}); session = s }

-- Start

-- a session that has taken nothing, after the start's bytes
abbrev pub initial : Started → Bool → Session
initial t k =
    record {
      lanes = t.lanes;
      phase = Taking 0;
      taken = 0;
      given = 0;
      limit = max_output;
      suffix = t.suffix;
      kmac = k;
    }

-- a session that could not start: giving, with nothing to give
abbrev pub unstarted : Session
unstarted =
    record {
      lanes = replicate 25 0;
      phase = Giving 0;
      taken = 0;
      given = 0;
      limit = 0;
      suffix = 0;
      kmac = false;
    }

-- of a start, whatever it is refused with
unfoldable pub started_session : {E : Type 0} → Result Started E → Bool → SessionAnswer E
started_session (Ok t) k = record { answer = Ok (tt {0}); session = initial t k }
started_session (Err e) k = record { answer = Err e; session = unstarted }

-- whether right_encode(0) follows the message
abbrev pub is_kmac : Start → Bool
is_kmac (named N S) = false
is_kmac (keyed K S) = true

-- cSHAKE256 by its name and customisation, KMACXOF256 by its key and customisation
unfoldable pub begun : Start → SessionAnswer Refusal
begun s = started_session (started s) (is_kmac s)

-- Take

-- the session with n more bytes taken, which led to the sponge u
abbrev pub after_taking : Session → ℕ → Running → Session
after_taking s n u =
    record {
      lanes = u.lanes;
      phase = Taking u.position;
      taken = s.taken + n;
      given = s.given;
      limit = s.limit;
      suffix = s.suffix;
      kmac = s.kmac;
    }

unfoldable pub taking_in : Phase → Session → List ℕ → SessionAnswer Refusal
taking_in (Taking p) s m =
    cond (ltb max_message (s.taken + length m)) (session_answer input_too_long s)
    (session_answer done (after_taking s (length m) (absorbed (running s.lanes (p % rate)) m)))
taking_in (Giving p) s m = session_answer wrong_state s

-- a piece m
abbrev pub taking : Session → List ℕ → SessionAnswer Refusal
taking s m = taking_in s.phase s m

-- Give

-- what follows the message, where k says whether the session is of KMACXOF256
unfoldable pub input_end : Bool → List ℕ
input_end true = right_encode 0
input_end false = []

-- the sponge that a session gives from: the first ask ends the input
unfoldable pub giving_sponge : Phase → Session → Running
giving_sponge (Taking p) s = finished s.suffix (absorbed (running s.lanes (p % rate)) (input_end s.kmac))
giving_sponge (Giving p) s = running s.lanes p

-- the session with n more bytes given, which led to the sponge u
abbrev pub after_giving : Session → ℕ → Running → Session
after_giving s n u =
    record {
      lanes = u.lanes;
      phase = Giving u.position;
      taken = s.taken;
      given = s.given + n;
      limit = s.limit;
      suffix = s.suffix;
      kmac = s.kmac;
    }

-- an ask for n bytes
unfoldable pub giving : Session → ℕ → SessionAnswer Refusal
giving s n =
    cond (ltb s.limit (s.given + n)) (session_answer bad_output_length s)
    (session_answer done (after_giving s n (after n (giving_sponge s.phase s))))

-- the lent output after the ask
unfoldable pub filled : Session → List ℕ → List ℕ
filled s out = cond (ltb s.limit (s.given + length out)) out (squeezed (length out) (giving_sponge s.phase s))
