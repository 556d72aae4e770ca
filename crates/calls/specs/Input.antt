-- cSHAKE256(X, L, N, S) up to its output (SP 800-185, 3.3; docs/RULES.md, 'Strings').
use Rattle.std.specs.Prelude.{Bool, true, false, cond, ◌&&◌, List, [], ◌∷◌, ◌++◌, ℕ}
use Rattle.encode.specs.Padding.{rate, padded}
use Rattle.encode.specs.Encode.{encode_string, bytepad}

-- N, S and X
pub record Input : Type 0 where
  pub name : List ℕ
  pub customisation : List ℕ
  pub message : List ℕ

abbrev pub is_empty : List ℕ → Bool
is_empty [] = true
is_empty (x ∷ l) = false

-- without a name and a customisation cSHAKE256 is SHAKE256
abbrev pub is_shake : List ℕ → List ℕ → Bool
is_shake N S = is_empty N && is_empty S

-- the bytes before the message
abbrev pub cshake_prefix : List ℕ → List ℕ → List ℕ
cshake_prefix N S = cond (is_shake N S) [] (bytepad (encode_string N ++ encode_string S) rate)

-- the suffix byte after it
abbrev pub cshake_suffix : List ℕ → List ℕ → ℕ
cshake_suffix N S = cond (is_shake N S) 0x1f 0x04

-- All that the permutation is fed: the padded bytes, from the first to the one that got 80. 'Fed' is docs/RULES.md's word.
unfoldable pub fed_bytes : Input → List ℕ
fed_bytes i =
    padded (cshake_suffix i.name i.customisation) (cshake_prefix i.name i.customisation ++ i.message)
