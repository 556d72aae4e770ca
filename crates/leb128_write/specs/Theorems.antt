-- What holds of reading and writing one number, over the definitions that the contracts cite.
use Rattle.std.specs.Prelude.{ℕ, ◌+◌, ◌≤◌, ◌<◌, ◌≡◌, ◌⊎◌, ◌↔◌, List, ◌++◌, length, take, drop}
use Rattle.encode.specs.Laws.Bytes.{Bytes}
use Rattle.leb128.specs.Number.{value, number, max_number}
use Rattle.leb128_write.specs.Written.{written_number}
use Rattle.leb128_write.specs.Answers.{number_length, written_past, number_written}

-- a number that was written at a place: the place answered is past its bytes, reading there gives the number and that place, and the bytes outside are as
-- before
pub record NumberIn (at v : ℕ) (out : List ℕ) : Type 0 where
  pub place : written_past at v (length out) ≡ at + number_length v
  pub reads : number at (drop at (number_written at v out)) ≡ value v (written_past at v (length out)) (drop (written_past at v (length out)) out)
  pub before : take at (number_written at v out) ≡ take at out
  pub after : drop (written_past at v (length out)) (number_written at v out) ≡ drop (written_past at v (length out)) out

pub record Theorems : Type 0 where
  -- where writing answers a place, reading gives the number back
  pub round_trip : (at v : ℕ) (out : List ℕ) → (written_past at v (length out) ≡ 0 → ⊥) → NumberIn at v out
  -- it answers none exactly where the number is above the largest or there is no room for it, and then nothing is written
  pub refused : (at v n : ℕ) → (written_past at v n ≡ 0) ↔ ((max_number < v) ⊎ (n < at + number_length v))
  pub nothing_written : (at v : ℕ) (out : List ℕ) → written_past at v (length out) ≡ 0 → number_written at v out ≡ out
  -- a number has one form: bytes that read as it begin with the number written, and the place past it is that of writing
  pub one_form : (at v next : ℕ) (s rest : List ℕ) → Bytes s → number at s ≡ value v next rest
      → (s ≡ written_number v ++ rest) × (next ≡ at + number_length v)
  -- a number takes one to three bytes, and none is above the largest
  pub one_to_three : (v : ℕ) → v ≤ max_number → (1 ≤ number_length v) × (number_length v ≤ 3)
  pub none_above : (v : ℕ) → max_number < v → number_length v ≡ 0
