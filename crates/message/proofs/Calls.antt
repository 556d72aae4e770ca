-- The calls that a start and a message make: what the sponge then gives, and how often it was permuted. Over any call of the three functions.
use mathlib.Core.Path.{◌≡◌, ap, ◌∙◌}
use mathlib.Core.List.{List, ◌++◌}
use Prim.Native.Nat.{ℕ, ◌+◌, ◌%◌, ◌≤◌}
use native.Mathlib.Omega.{arith}
use lib.ListN.{length, length-append}
use Rattle.encode.specs.Padding.{rate}
use Rattle.calls.specs.Start.{Start, start_refusal}
use Rattle.calls.specs.Call.{Function, Call, start_of, message_of, output_bytes, fed, ending}
use Rattle.calls.specs.Count.{output_runs, runs}
use Rattle.calls.proofs.Laws.Runs.{runs_by_lengths, length_ending}
use Rattle.sponge.specs.Sponge.{sponge}
use Rattle.sponge.specs.Running.{Running, running, state_of, absorbed, finished, squeezed}
use Rattle.sponge.specs.declared.Sponge.{Sponge}
use Rattle.start.specs.declared.Started.{Started}
use Rattle.start.specs.Started.{most_blocks, StartedBy}
use Rattle.start.proofs.Calls.{start_blocks_lem, call_output}
use Rattle.message.specs.Message.{MessageAbsorbed}

-- an accepted start s, and the call's message with its ending put in after it, by which the sponge u became t
module _ {f : Function} (c : Call f) (s : Started) (h : StartedBy (start_of c) s) (ok : start_refusal (start_of c) ≡ 0) (m : List ℕ) (u t : Sponge) (r : ℕ)
    (is : m ≡ message_of c ++ ending f (output_bytes c)) (begins : state_of u ≡ running s.lanes 0) (e : MessageAbsorbed s.suffix u m t r) where
  pub message_output : (n : ℕ) → squeezed n (state_of t) ≡ sponge (fed c) n
  message_output n =
      ap (squeezed n) (e.is ∙ ap (λ (v : Running). finished s.suffix (absorbed (running v.lanes (v.position % rate)) m)) begins) ∙ call_output c s m n h ok is

  pub message_runs : s.blocks + r + output_runs (output_bytes c) ≡ runs c
  message_runs =
      let long : length m ≡ length (message_of c) + length (ending f (output_bytes c)) =
      ap length is ∙ length-append (message_of c) (ending f (output_bytes c)) in
      omega (arith, e.blocks, runs_by_lengths c, start_blocks_lem (start_of c) s h ok, length_ending f (output_bytes c))

-- a start's blocks are few enough to be added up
pub start_bounded : {t : Start} {s : Started} → StartedBy t s → s.blocks ≤ most_blocks
start_bounded h = h.bounded
