-- What a generator's keys and pieces are made of (cSHAKE-DRNG, 1.1.3 and 1.1.4, and KMAC-DRNG, 1.2.3 and 1.2.4; docs/RULES.md, 'Generators').
use Rattle.std.specs.Prelude.{List, [], ◌∷◌, ℕ, ◌+◌, take, drop}
use Rattle.encode.specs.Encode.{length_suffixed}
use Rattle.calls.specs.Start.{Start}
use Rattle.calls.specs.Call.{Call, fed, extendable, extendable_call}
use Rattle.sponge.specs.Sponge.{sponge}
use Rattle.seeding.specs.declared.Drng.{Drng}
use Rattle.seeding.specs.Seeding.{Seeding, key_bytes, call_start, seed_call}
use Rattle.pieces.specs.Pieces.{Generated, piece_bytes}

-- 1.1.3 and 1.2.3: the key that a seeding makes
unfoldable pub new_key : Drng → Seeding → List ℕ
new_key d s = sponge (fed (seed_call d s)) key_bytes

-- `cSHAKE-DRNG generate`
abbrev pub cshake_generate_name : List ℕ
cshake_generate_name =
    0x63 ∷ 0x53 ∷ 0x48 ∷ 0x41 ∷ 0x4b ∷ 0x45 ∷ 0x2d ∷ 0x44 ∷ 0x52 ∷ 0x4e ∷ 0x47 ∷ 0x20 ∷ 0x67 ∷ 0x65 ∷ 0x6e ∷ 0x65 ∷ 0x72 ∷ 0x61 ∷ 0x74 ∷ 0x65 ∷ []

-- `KMAC-DRNG generate`
abbrev pub kmac_generate_customisation : List ℕ
kmac_generate_customisation =
    0x4b ∷ 0x4d ∷ 0x41 ∷ 0x43 ∷ 0x2d ∷ 0x44 ∷ 0x52 ∷ 0x4e ∷ 0x47 ∷ 0x20 ∷ 0x67 ∷ 0x65 ∷ 0x6e ∷ 0x65 ∷ 0x72 ∷ 0x61 ∷ 0x74 ∷ 0x65 ∷ []

-- 1.1.4 and 1.2.4
abbrev pub generate_start : Drng → (key : List ℕ) → Start
generate_start d key = call_start d cshake_generate_name kmac_generate_customisation key

-- the call that a piece is made of: X is encode(additional input), which is the additional input and one byte with its length
abbrev pub piece_call : (d : Drng) (additional key : List ℕ) → Call (extendable (generate_start d key))
piece_call d additional key = extendable_call (generate_start d key) (length_suffixed additional) (key_bytes + piece_bytes)

-- a piece: the first bytes are the new key, the next the stream
unfoldable pub generate : Drng → (additional key : List ℕ) → Generated
generate d additional key =
    let output : List ℕ = sponge (fed (piece_call d additional key)) (key_bytes + piece_bytes) in
    record { key = take key_bytes output; stream = drop key_bytes output }
