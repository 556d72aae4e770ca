-- How often the permutation runs for a call (docs/RULES.md, 'Count').
use Rattle.std.specs.Prelude.{ℕ, ◌+◌, ◌-◌, ◌/◌, length}
use Rattle.encode.specs.Padding.{rate, blocks}
use Rattle.answers.specs.Done.{if_done}
use Rattle.calls.specs.Call.{Function, Call, output_bytes, refusal, fed}

-- the output's share: its blocks of 136, rounded up, less one, or 0 for an empty output
abbrev pub output_runs : ℕ → ℕ
output_runs n = blocks n - 1

-- the padded input's blocks, and the output's share
unfoldable pub runs : {f : Function} → Call f → ℕ
runs c = length (fed c) / rate + output_runs (output_bytes c)

-- the count that a call reports: 0 on a refusal
unfoldable pub reported_runs : {f : Function} → Call f → ℕ
reported_runs c = if_done (refusal c) (runs c) 0
