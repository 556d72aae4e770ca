-- What a call in one go answers: number and count (docs/RULES.md, 'Numbers' and 'Count'), and what the lent output then holds.
use Rattle.std.specs.Prelude.{List, ℕ}
use Rattle.answers.specs.declared.Outcome.{Outcome}
use Rattle.answers.specs.Done.{if_done}
use Rattle.calls.specs.Call.{Function, Call, output_bytes, refusal, fed}
use Rattle.calls.specs.Count.{reported_runs}
use Rattle.sponge.specs.Sponge.{sponge}

unfoldable pub outcome : {f : Function} → Call f → Outcome
outcome c = record { number = refusal c; runs = reported_runs c }

-- the function's bytes, or on a refusal what stood there before
unfoldable pub written : {f : Function} → Call f → List ℕ → List ℕ
written c before = if_done (refusal c) (sponge (fed c) (output_bytes c)) before
