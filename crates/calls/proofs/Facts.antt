-- The refusals hold by computation; a count is worked out from the lengths alone (`runs_by_lengths`).
use mathlib.Core.Path.{◌≡◌, refl, ◌∙◌}
use Prim.Native.Nat.{ℕ, ◌+◌, ◌/◌}
use Rattle.encode.specs.Digits.{width_in}
use Rattle.encode.specs.Padding.{rate, blocks}
use Rattle.encode.proofs.Laws.Lengths.{string_length}
use Rattle.calls.specs.Start.{start_refusal}
use Rattle.calls.specs.Call.{Function, cSHAKE256, KMAC256, KMACXOF256, kmacxof256, output_refusal, refusal}
use Rattle.calls.specs.Count.{output_runs, reported_runs}
use Rattle.calls.proofs.Laws.Runs.{cshake_blocks, runs_by_lengths}
use Rattle.calls.specs.Facts.{StartRefusals, CallRefusals, Runs, Counts}

pub start_refusals : StartRefusals
unfolding start_refusal
start_refusals =
    record {
      key4096 = refl;
      key4097 = refl;
      keyed4096 = refl;
      keyed4097 = refl;
      name4096 = refl;
      name4097 = refl;
      named4096 = refl;
      named4097 = refl;
      reserved = refl;
      lower_case = refl;
      longer = refl;
    }

pub call_refusals : CallRefusals
unfolding refusal start_refusal reported_runs
call_refusals =
    record {
      message = refl;
      long_message = refl;
      output = every_function (λ f. output_refusal f 16777216 ≡ 0) refl refl refl;
      long_output = every_function (λ f. output_refusal f 16777217 ≡ 6) refl refl refl;
      start_first = refl;
      cshake_empty = refl;
      kmac_empty = refl;
      kmacxof_empty = refl;
      no_count = refl;
    }
  where
    every_function : (P : Function → Type 0) → P cSHAKE256 → P KMAC256 → P KMACXOF256 → (f : Function) → P f
    every_function P a b c cSHAKE256 = a
    every_function P a b c KMAC256 = b
    every_function P a b c KMACXOF256 = c

-- the runs by the lengths of the key, the message, the output and the customisation
abbrev lengths_run : ℕ → ℕ → ℕ → ℕ → ℕ
lengths_run k x n s = cshake_blocks 4 s + blocks (string_length k + 2) + (x + 2) / rate + 1 + output_runs n

by_lengths : (k x n s r : ℕ) → lengths_run k x n s ≡ r → Runs k x n s r
by_lengths k x n s r e K X S hk hx hs = runs_by_lengths (kmacxof256 K X n S) ∙ rw (hk, hx, hs) e

pub counts : Counts
unfolding width_in
counts =
    record {
      output32 = by_lengths 32 0 32 0 3 refl;
      output0 = by_lengths 32 0 0 0 3 refl;
      output136 = by_lengths 32 0 136 0 3 refl;
      output137 = by_lengths 32 0 137 0 4 refl;
      message133 = by_lengths 32 133 32 0 3 refl;
      message134 = by_lengths 32 134 32 0 4 refl;
      customisation125 = by_lengths 32 0 32 125 3 refl;
      customisation126 = by_lengths 32 0 32 126 4 refl;
    }
