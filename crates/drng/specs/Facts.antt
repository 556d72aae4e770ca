-- The edges of a seeding and of a draw (docs/RULES.md, 'Numbers' and 'Facts'), and all that a piece is fed. proofs/Facts.antt proves them.
use Rattle.std.specs.Prelude.{◌≡◌, true, false, List, [], ◌∷◌, ◌++◌, ℕ, ◌+◌, ◌≤◌, length, replicate, Ok, Err}
use Rattle.answers.specs.declared.Refusal.TheVariants.{StringTooLong}
use Rattle.calls.specs.Limits.{max_additional}
use Rattle.calls.specs.Call.{fed}
use Rattle.sponge.specs.Sponge.{sponge}
use Rattle.seeding.specs.declared.Drng.{Drng}
use Rattle.seeding.specs.declared.Drng.TheVariants.{Cshake, Kmac}
use Rattle.seeding.specs.Seeding.{key_bytes}
use Rattle.seeding.specs.Facts.{first_key}
use Rattle.pieces.specs.Pieces.{piece_bytes}
use Rattle.drng.specs.State.{fresh_generator}
use Rattle.drng.specs.Calls.{piece_call, generate}
use Rattle.drng.specs.Drng.{draw_refusal, draw_runs, seed_answer}

-- with any key and any additional input that is accepted, a draw of n bytes takes r runs
abbrev pub DrawTakes : Drng → (n r : ℕ) → Type 0
DrawTakes d n r = (additional key : List ℕ) → length additional ≤ max_additional → length key ≡ key_bytes → draw_runs d additional n key ≡ r

-- the first seeding, with a seed of n bytes and nothing more, takes r runs
abbrev pub SeedTakes : Drng → (n r : ℕ) → Type 0
SeedTakes d n r = (seed_answer d fresh_generator (replicate n 0) []).answer ≡ Ok r

pub record GeneratorFacts : Type 0 where
  pub unseeded : draw_refusal false 0 0 ≡ 1
  pub unseeded_first : draw_refusal false 85 16777217 ≡ 1
  pub additional84 : draw_refusal true 84 0 ≡ 0
  pub additional85 : draw_refusal true 85 16777217 ≡ 3
  pub output : draw_refusal true 84 16777216 ≡ 0
  pub long_output : draw_refusal true 84 16777217 ≡ 6
  pub cshake0 : DrawTakes Cshake 0 0
  pub cshake208 : DrawTakes Cshake 208 3
  pub cshake209 : DrawTakes Cshake 209 6
  pub kmac0 : DrawTakes Kmac 0 0
  pub kmac208 : DrawTakes Kmac 208 4
  pub kmac209 : DrawTakes Kmac 209 8
  pub cshake_seed134 : SeedTakes Cshake 134 2
  pub cshake_seed135 : SeedTakes Cshake 135 3
  pub kmac_seed132 : SeedTakes Kmac 132 3
  pub kmac_seed133 : SeedTakes Kmac 133 4
  -- a refused seeding counts nothing
  pub no_seed : (d : Drng) → (seed_answer d fresh_generator [] (replicate 85 0)).answer ≡ Err StringTooLong
  -- a piece without additional input, from the first key. Of cSHAKE256 the name, after its length in bits, and the key; then the length of no bytes
  pub cshake_piece : fed (piece_call Cshake [] (replicate key_bytes 0))
      ≡ (0x01 ∷ 0x88 ∷ [])
      ++ (0x01 ∷ 0xa0 ∷ 0x63 ∷ 0x53 ∷ 0x48 ∷ 0x41 ∷ 0x4b ∷ 0x45 ∷ 0x2d ∷ 0x44 ∷ 0x52 ∷ 0x4e ∷ 0x47 ∷ 0x20 ∷ [])
      ++ (0x67 ∷ 0x65 ∷ 0x6e ∷ 0x65 ∷ 0x72 ∷ 0x61 ∷ 0x74 ∷ 0x65 ∷ [])
      ++ first_key ++ replicate 45 0 ++ (0x00 ∷ 0x04 ∷ []) ++ replicate 133 0 ++ (0x80 ∷ [])
  -- of KMACXOF256 the name KMAC and the customisation, each after its length in bits; a block with the key; the length of no bytes, and right_encode(0)
  pub kmac_piece : fed (piece_call Kmac [] (replicate key_bytes 0))
      ≡ (0x01 ∷ 0x88 ∷ 0x01 ∷ 0x20 ∷ 0x4b ∷ 0x4d ∷ 0x41 ∷ 0x43 ∷ [])
      ++ (0x01 ∷ 0x90 ∷ 0x4b ∷ 0x4d ∷ 0x41 ∷ 0x43 ∷ 0x2d ∷ 0x44 ∷ 0x52 ∷ 0x4e ∷ 0x47 ∷ 0x20 ∷ 0x67 ∷ 0x65 ∷ 0x6e ∷ 0x65 ∷ 0x72 ∷ 0x61 ∷ 0x74 ∷ 0x65 ∷ [])
      ++ replicate 108 0 ++ (0x01 ∷ 0x88 ∷ []) ++ first_key ++ replicate 67 0 ++ (0x00 ∷ 0x00 ∷ 0x01 ∷ 0x04 ∷ []) ++ replicate 131 0 ++ (0x80 ∷ [])
  -- a piece's output is the new key, then the stream
  pub parts : (d : Drng) (additional key : List ℕ)
      → (generate d additional key).key ++ (generate d additional key).stream ≡ sponge (fed (piece_call d additional key)) (key_bytes + piece_bytes)
