-- A seeding of either generator as a call (cSHAKE-DRNG, 1.1.3, and KMAC-DRNG, 1.2.3; docs/RULES.md, 'Generators').
use Rattle.std.specs.Prelude.{◌≡◌, cond, List, [], ◌∷◌, ◌++◌, ℕ, ltb, length}
use Rattle.answers.specs.Numbers.{done, string_too_long, input_too_long}
use Rattle.encode.specs.Encode.{length_suffixed}
use Rattle.calls.specs.Limits.{max_personalisation, max_seed}
use Rattle.calls.specs.Start.{Start, named, keyed}
use Rattle.calls.specs.Call.{Call, extendable, extendable_call}
use Rattle.seeding.specs.declared.Drng.{Drng}
use Rattle.seeding.specs.declared.Drng.TheVariants.{Cshake, Kmac}

-- the bytes of a generator's key
abbrev pub key_bytes : ℕ
key_bytes = 64

-- the old key, the seed and the personalisation
pub record Seeding : Type 0 where
  pub key : List ℕ
  pub seed : List ℕ
  pub personalisation : List ℕ

-- `cSHAKE-DRNG seed`
abbrev pub cshake_seed_name : List ℕ
cshake_seed_name =
    0x63 ∷ 0x53 ∷ 0x48 ∷ 0x41 ∷ 0x4b ∷ 0x45 ∷ 0x2d ∷ 0x44 ∷ 0x52 ∷ 0x4e ∷ 0x47 ∷ 0x20 ∷ 0x73 ∷ 0x65 ∷ 0x65 ∷ 0x64 ∷ []

-- `KMAC-DRNG seed`
abbrev pub kmac_seed_customisation : List ℕ
kmac_seed_customisation = 0x4b ∷ 0x4d ∷ 0x41 ∷ 0x43 ∷ 0x2d ∷ 0x44 ∷ 0x52 ∷ 0x4e ∷ 0x47 ∷ 0x20 ∷ 0x73 ∷ 0x65 ∷ 0x65 ∷ 0x64 ∷ []

-- How a generator's call starts from its key. 1.1.3 and 1.1.4: cSHAKE256 with a name, and the key as its customisation; 1.2.3 and 1.2.4: KMACXOF256 with the
-- key as its key, and a customisation.
abbrev pub call_start : Drng → (name customisation key : List ℕ) → Start
call_start Cshake name customisation key = named name key
call_start Kmac name customisation key = keyed key customisation

-- 1.1.3 and 1.2.3
abbrev pub seed_start : Drng → (key : List ℕ) → Start
seed_start d key = call_start d cshake_seed_name kmac_seed_customisation key

-- X: the seed, then encode(personalisation), which is the personalisation and one byte with its length
abbrev pub seed_message : Seeding → List ℕ
seed_message s = s.seed ++ length_suffixed s.personalisation

-- the call that a seeding is made of: its output is the new key
abbrev pub seed_call : (d : Drng) (s : Seeding) → Call (extendable (seed_start d s.key))
seed_call d s = extendable_call (seed_start d s.key) (seed_message s) key_bytes

-- the number that a seeding is answered with, by the lengths of seed and personalisation; the smallest that applies
unfoldable pub seed_lengths_refusal : (seed personalisation : ℕ) → ℕ
seed_lengths_refusal seed personalisation = cond (ltb max_personalisation personalisation) string_too_long (cond (ltb max_seed seed) input_too_long done)

abbrev pub seed_refusal : Seeding → ℕ
seed_refusal s = seed_lengths_refusal (length s.seed) (length s.personalisation)

abbrev pub SeedingAccepted : Seeding → Type 0
SeedingAccepted s = seed_refusal s ≡ done
