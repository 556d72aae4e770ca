-- A seeding's limits, and all that the first seeding of each generator with nothing to add is fed. proofs/Facts.antt proves them by computation.
use Rattle.std.specs.Prelude.{◌≡◌, List, [], ◌∷◌, ◌++◌, ℕ, replicate}
use Rattle.calls.specs.Call.{fed}
use Rattle.seeding.specs.declared.Drng.TheVariants.{Cshake, Kmac}
use Rattle.seeding.specs.Seeding.{Seeding, key_bytes, seed_call, seed_refusal}

-- from the first key, with a seed and a personalisation of these lengths
abbrev seeding : ℕ → ℕ → Seeding
seeding n p = record { key = replicate key_bytes 0; seed = replicate n 0; personalisation = replicate p 0 }

-- the first key, after its length in bits
abbrev pub first_key : List ℕ
first_key = 0x02 ∷ 0x02 ∷ 0x00 ∷ replicate 64 0

pub record SeedingFacts : Type 0 where
  pub personalisation84 : seed_refusal (seeding 0 84) ≡ 0
  pub personalisation85 : seed_refusal (seeding 65537 85) ≡ 3
  pub seed65536 : seed_refusal (seeding 65536 0) ≡ 0
  pub seed65537 : seed_refusal (seeding 65537 0) ≡ 5
  -- the name's length in bits, the name, the key, and the empty personalisation's length
  pub cshake : fed (seed_call Cshake (seeding 0 0))
      ≡ (0x01 ∷ 0x88 ∷ 0x01 ∷ 0x80 ∷ 0x63 ∷ 0x53 ∷ 0x48 ∷ 0x41 ∷ 0x4b ∷ 0x45 ∷ 0x2d ∷ 0x44 ∷ 0x52 ∷ 0x4e ∷ 0x47 ∷ 0x20 ∷ 0x73 ∷ 0x65 ∷ 0x65 ∷ 0x64 ∷ [])
      ++ first_key ++ replicate 49 0 ++ (0x00 ∷ 0x04 ∷ []) ++ replicate 133 0 ++ (0x80 ∷ [])
  -- the name KMAC and the customisation, each after its length in bits; a block with the key; the empty personalisation's length, and right_encode(0)
  pub kmac : fed (seed_call Kmac (seeding 0 0))
      ≡ (0x01 ∷ 0x88 ∷ 0x01 ∷ 0x20 ∷ 0x4b ∷ 0x4d ∷ 0x41 ∷ 0x43 ∷ [])
      ++ (0x01 ∷ 0x70 ∷ 0x4b ∷ 0x4d ∷ 0x41 ∷ 0x43 ∷ 0x2d ∷ 0x44 ∷ 0x52 ∷ 0x4e ∷ 0x47 ∷ 0x20 ∷ 0x73 ∷ 0x65 ∷ 0x65 ∷ 0x64 ∷ []) ++ replicate 112 0
      ++ (0x01 ∷ 0x88 ∷ []) ++ first_key ++ replicate 67 0 ++ (0x00 ∷ 0x00 ∷ 0x01 ∷ 0x04 ∷ []) ++ replicate 131 0 ++ (0x80 ∷ [])
