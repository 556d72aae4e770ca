-- The calls of either generator: for strings of every length, also those that a seeding or a draw refuses.
use Rattle.std.specs.Prelude.{◌≡◌, List, ◌++◌, ℕ, ◌+◌, take, drop}
use Rattle.calls.specs.Call.{Call, fed, extendable, extendable_call}
use Rattle.calls.specs.Count.{runs}
use Rattle.sponge.specs.Sponge.{sponge}
use Rattle.seeding.specs.declared.Drng.{Drng}
use Rattle.seeding.specs.Seeding.{key_bytes, seed_start}
use Rattle.drng.specs.Calls.{generate_start}
use Rattle.generator_input.specs.Input.{byte_suffixed}
use Rattle.generator_calls.specs.declared.NewKey.{NewKey}

-- 1.1.3 and 1.2.3: the call that makes a new key
abbrev pub key_call : (d : Drng) (key seed personalisation : List ℕ) → Call (extendable (seed_start d key))
key_call d key seed personalisation = extendable_call (seed_start d key) (seed ++ byte_suffixed personalisation) key_bytes

-- 1.1.4 and 1.2.4: the call that makes a key and n bytes of stream
abbrev pub streamed_call : (d : Drng) (key additional : List ℕ) → ℕ → Call (extendable (generate_start d key))
streamed_call d key additional n = extendable_call (generate_start d key) (byte_suffixed additional) (key_bytes + n)

-- a new key, and its permutations
pub record KeyMade (d : Drng) (old seed personalisation : List ℕ) (r : NewKey) : Type 0 where
  pub key : r.key ≡ sponge (fed (key_call d old seed personalisation)) key_bytes
  pub runs : r.runs ≡ runs (key_call d old seed personalisation)

-- the key that follows, and n bytes of stream
pub record PieceMade (d : Drng) (old additional : List ℕ) (n : ℕ) (next out : List ℕ) : Type 0 where
  pub key : next ≡ take key_bytes (sponge (fed (streamed_call d old additional n)) (key_bytes + n))
  pub stream : out ≡ drop key_bytes (sponge (fed (streamed_call d old additional n)) (key_bytes + n))
