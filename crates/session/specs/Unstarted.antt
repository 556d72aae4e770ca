-- A session that could not start (docs/RULES.md, 'Numbers'): giving, with nothing to give. It is proved in proofs/Unstarted.antt.
use Rattle.std.specs.Prelude.{◌≡◌, List, ℕ, ◌<◌}
use Rattle.answers.specs.Numbers.{done, wrong_state, bad_output_length}
use Rattle.answers.specs.Done.{answer_number}
use Rattle.calls.specs.Start.{Start, start_refusal}
use Rattle.session_state.specs.Session.{session_answer, begun, taking, giving, filled}

-- whatever it is asked for, it stays as it is and writes nothing
pub record Unstarted (s : Start) : Type 0 where
  pub number : answer_number (begun s).answer ≡ start_refusal s
  pub take : (m : List ℕ) → taking (begun s).session m ≡ session_answer wrong_state (begun s).session
  pub give_none : giving (begun s).session 0 ≡ session_answer done (begun s).session
  pub give : (n : ℕ) → 0 < n → giving (begun s).session n ≡ session_answer bad_output_length (begun s).session
  pub unwritten : (out : List ℕ) → filled (begun s).session out ≡ out

-- for every start that is refused
abbrev pub CouldNotStart : Type 0
CouldNotStart = (s : Start) → (start_refusal s ≡ 0 → ⊥) → Unstarted s
