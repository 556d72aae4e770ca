-- What a start hands back: what it is refused for, or the sponge after the bytes before the message.
use Rattle.std.specs.Prelude.{ℕ, ◌/◌, ◌≤◌, ◌≡◌, length, replicate, Result}
use Rattle.std.specs.Result.{IfOk, result_unwrap_or}
use Rattle.answers.specs.declared.Refusal.{Refusal}
use Rattle.answers.specs.Done.{answered}
use Rattle.encode.specs.Padding.{rate}
use Rattle.calls.specs.Start.{Start, start_refusal, start_prefix, start_suffix}
use Rattle.sponge.specs.Running.{fresh, absorbed}
use Rattle.start.specs.declared.Started.{Started}

-- an accepted start: the prefix is whole blocks, so the message begins at position 0
abbrev pub after_prefix : Start → Started
after_prefix s =
    record {
      lanes = (absorbed fresh (start_prefix s)).lanes;
      suffix = start_suffix s;
      blocks = length (start_prefix s) / rate;
    }

-- by its number
unfoldable pub started : Start → Result Started Refusal
started s = answered (start_refusal s) (after_prefix s)

-- for calls on strings of every length: nothing stands in the sponge where the start is refused
abbrev pub no_start : Started
no_start = record { lanes = replicate 25 0; suffix = 0; blocks = 0 }

unfoldable pub start_state : Start → Started
start_state s = result_unwrap_or (started s) no_start

-- a bound on the blocks of a start: two strings of 4,096 bytes take at most 62 together
abbrev pub most_blocks : ℕ
most_blocks = 128

-- the answer, with that bound
pub record Starts (s : Start) (r : Result Started Refusal) : Type 0 where
  pub is : r ≡ started s
  pub bounded : IfOk r (λ v. v.blocks ≤ most_blocks)

-- the start of a call that goes on in any case, with that bound
pub record StartedBy (s : Start) (v : Started) : Type 0 where
  pub is : v ≡ start_state s
  pub bounded : v.blocks ≤ most_blocks
