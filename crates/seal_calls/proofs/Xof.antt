-- From the calls that the functions make in a row to KMACXOF256 as the sponge runs it.
use mathlib.Core.Path.{◌≡◌, ap, ◌∙◌}
use mathlib.Core.List.{List, ◌++◌}
use Prim.Native.Nat.{ℕ, ◌+◌, ◌/◌, ◌%◌, ◌^◌, ◌≤◌, ◌<◌}
use native.Mathlib.Omega.{arith}
use mir.Syntax.{w64}
use mir.Val.{Fits}
use lib.ListN.{length, length-append}
use Rattle.encode.specs.Padding.{rate}
use Rattle.calls.specs.Start.{keyed}
use Rattle.calls.specs.Count.{output_runs}
use Rattle.sponge.specs.declared.Sponge.{Sponge}
use Rattle.sponge.specs.Running.{Running, running, state_of, absorbed, finished}
use Rattle.start.specs.declared.Started.{Started}
use Rattle.start.specs.Started.{start_state, most_blocks, StartedBy}
use Rattle.message.specs.Message.{MessageAbsorbed}
use Rattle.message.proofs.Calls.{start_bounded}
use Rattle.seal_calls.specs.SealCalls.{zero_code, xof_running, xof_runs}

-- the sponge u of a start s, and the message x with right_encode(0) put in after it, by which the sponge became v
module _ (K S x : List ℕ) (s : Started) (u v : Sponge) (r : ℕ) (h : StartedBy (keyed K S) s) (begins : state_of u ≡ running s.lanes 0)
    (e : MessageAbsorbed s.suffix u (x ++ zero_code) v r) where
  pub xof_running_lem : state_of v ≡ xof_running K S x
  unfolding xof_running
  xof_running_lem =
      e.is
      ∙ ap (λ (w : Running). finished s.suffix (absorbed (running w.lanes (w.position % rate)) (x ++ zero_code))) begins
      ∙ ap (λ (t : Started). finished t.suffix (absorbed (running t.lanes 0) (x ++ zero_code))) h.is

  pub xof_runs_lem : (n o : ℕ) → o ≡ output_runs n → s.blocks + r + o ≡ xof_runs K S x n
  unfolding xof_runs
  xof_runs_lem n o counted = λ i. (h.is i).blocks + e.blocks i + counted i

  pub started_bounded : (start_state (keyed K S)).blocks ≤ most_blocks
  started_bounded = omega (arith, start_bounded h, ap (λ (t : Started). t.blocks) h.is)

-- the count of a tag over any ciphertext and label
module _ (b r : ℕ) (x l : List ℕ) (bounded : b ≤ most_blocks) (blocks : r ≡ length ((x ++ l) ++ zero_code) / rate + 1) (hx : length x < 2 ^ 64)
    (hl : length l < 2 ^ 64) where
  long : length ((x ++ l) ++ zero_code) ≡ length x + length l + 2
  long = simp length-append

  pub input_fits : Fits w64 (b + r)
  input_fits = omega (arith, long)

  pub runs_fit : (o t : ℕ) → o ≡ output_runs t → t < 2 ^ 64 → Fits w64 (b + r + o)
  runs_fit o t counted ht = omega (arith, long)
