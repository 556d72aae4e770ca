-- From the generator's calls, whatever the lengths, to its keys and pieces: within the limits a byte holds the length, and of a cut piece the rest of the
-- stream is never squeezed.
use mathlib.Core.Path.{◌≡◌, sym, ap, ◌∙◌}
use mathlib.Core.List.{List, [], ◌∷◌, ◌++◌}
use Prim.Native.Nat.{ℕ, ◌+◌, ◌%◌, ◌≤◌, ◌<◌}
use native.Mathlib.Omega.{arith}
use lib.ListN.{length, take, drop, length-drop}
use lib.Seq.{take-add, drop_at, length-take-le}
use Rattle.encode.specs.Encode.{length_suffixed}
use Rattle.calls.specs.Limits.{max_additional, max_personalisation}
use Rattle.calls.specs.Call.{fed, extendable_call}
use Rattle.calls.specs.Count.{runs}
use Rattle.calls.proofs.Laws.Fed.{extendable_parts}
use Rattle.sponge.specs.Sponge.{sponge}
use Rattle.sponge.proofs.Whole.{length_sponge, sponge_prefix}
use Rattle.seeding.specs.declared.Drng.{Drng}
use Rattle.seeding.specs.Seeding.{key_bytes, seed_start, seed_call}
use Rattle.pieces.specs.Pieces.{piece_bytes}
use Rattle.drng.specs.Calls.{new_key, generate_start, piece_call, generate}
use Rattle.drng.specs.Drng.{seeding}
use Rattle.generator_input.specs.Input.{byte_suffixed}
use Rattle.generator_calls.specs.declared.NewKey.{NewKey}
use Rattle.generator_calls.specs.GeneratorCalls.{streamed_call, KeyMade, PieceMade}

-- a byte holds the length
one_byte : (l : List ℕ) → length l < 256 → byte_suffixed l ≡ length_suffixed l
one_byte l h =
    let e : length l % 256 ≡ length l = omega arith in
    ap (λ (k : ℕ). l ++ (k ∷ [])) e

-- ---- a new key

module _ (d : Drng) (old x p : List ℕ) (r : NewKey) (made : KeyMade d old x p r) (short : length p ≤ max_personalisation) where
  pub key_made : r.key ≡ new_key d (seeding old x p)
  unfolding new_key
  key_made =
      made.key ∙ ap (λ (l : List ℕ). sponge (fed (extendable_call (seed_start d old) (x ++ l) key_bytes)) key_bytes) (one_byte p (omega arith))

  pub key_runs : r.runs ≡ runs (seed_call d (seeding old x p))
  key_runs = made.runs ∙ ap (λ (l : List ℕ). runs (extendable_call (seed_start d old) (x ++ l) key_bytes)) (one_byte p (omega arith))

-- ---- a piece

-- the parts of a cut output are cuts of the parts
module _ (m : List ℕ) (n : ℕ) (h : n ≤ piece_bytes) where
  key_cut : take key_bytes (sponge m (key_bytes + n)) ≡ take key_bytes (sponge m (key_bytes + piece_bytes))
  key_cut =
      sponge_prefix m key_bytes (key_bytes + n) (omega arith) ∙ sym (sponge_prefix m key_bytes (key_bytes + piece_bytes) (omega arith))

  stream_cut : drop key_bytes (sponge m (key_bytes + n)) ≡ take n (drop key_bytes (sponge m (key_bytes + piece_bytes)))
  stream_cut =
      let all : List ℕ = sponge m (key_bytes + piece_bytes) in
      ap (drop key_bytes) (sym (sponge_prefix m (key_bytes + n) (key_bytes + piece_bytes) (omega arith)) ∙ take-add key_bytes n all)
      ∙ drop_at (take key_bytes all) (take n (drop key_bytes all)) key_bytes
      (length-take-le key_bytes all (omega (arith, length_sponge m (key_bytes + piece_bytes))))

module _ (d : Drng) (old additional : List ℕ) (n : ℕ) (short : length additional ≤ max_additional) where
  -- a piece that is cut is fed as a whole one
  fed_cut : fed (streamed_call d old additional n) ≡ fed (piece_call d additional old)
  fed_cut =
      extendable_parts (generate_start d old) (byte_suffixed additional) (key_bytes + n)
      ∙ sym (extendable_parts (generate_start d old) (byte_suffixed additional) (key_bytes + piece_bytes))
      ∙ ap (λ (l : List ℕ). fed (extendable_call (generate_start d old) l (key_bytes + piece_bytes))) (one_byte additional (omega arith))

  module _ (next out : List ℕ) (made : PieceMade d old additional n next out) (h : n ≤ piece_bytes) where
    pub piece_key : next ≡ (generate d additional old).key
    unfolding generate
    piece_key =
        made.key
        ∙ ap (λ (m : List ℕ). take key_bytes (sponge m (key_bytes + n))) fed_cut
        ∙ key_cut (fed (piece_call d additional old)) n h

    pub piece_stream : out ≡ take n (generate d additional old).stream
    unfolding generate
    piece_stream =
        made.stream
        ∙ ap (λ (m : List ℕ). drop key_bytes (sponge m (key_bytes + n))) fed_cut
        ∙ stream_cut (fed (piece_call d additional old)) n h

-- the stream of a piece is as long as the definition asks
pub piece_sized : (d : Drng) (additional key : List ℕ) → length (generate d additional key).stream ≡ piece_bytes
unfolding generate
piece_sized d additional key =
    length-drop key_bytes (sponge (fed (piece_call d additional key)) (key_bytes + piece_bytes))
    ∙ omega (arith, length_sponge (fed (piece_call d additional key)) (key_bytes + piece_bytes))
