-- What a call comes to after its start s, by what was checked before: the count, and what the lent output then holds. The message is m, and e follows it.
use Rattle.std.specs.Prelude.{ℕ, ◌+◌, ◌/◌, ◌%◌, ◌^◌, List, ◌++◌, length, Result, Ok, Err}
use Rattle.encode.specs.Padding.{rate}
use Rattle.calls.specs.Count.{output_runs}
use Rattle.sponge.specs.Running.{running, absorbed, finished, squeezed}
use Rattle.start.specs.declared.Started.{Started}

-- the permutations, by the blocks of the start and the lengths of message, ending and output; sums are of 64 bits
abbrev pub runs_from : (start message ending out : ℕ) → ℕ
runs_from start message ending out = (start + ((message + ending) % 2 ^ 64 / rate + 1 + output_runs out)) % 2 ^ 64

-- n bytes of output
unfoldable pub run_output : Started → (m e : List ℕ) → ℕ → List ℕ
run_output s m e n = squeezed n (finished s.suffix (absorbed (running s.lanes 0) (m ++ e)))

-- the count for an output of n bytes, or the refusal, whatever a refusal is
unfoldable pub run_outcome : {A E : Type 0} → Result A E → Started → (m e : List ℕ) → ℕ → Result ℕ E
run_outcome (Ok a) s m e n = Ok (runs_from s.blocks (length m) (length e) n)
run_outcome (Err r) s m e n = Err r

-- the lent output after the call: as it was where the call is refused
unfoldable pub run_written : {A E : Type 0} → Result A E → Started → (m e before : List ℕ) → List ℕ
run_written (Ok a) s m e before = run_output s m e (length before)
run_written (Err r) s m e before = before
