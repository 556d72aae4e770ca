-- How a call or a session starts: by a name or a key, and a customisation. What the start is refused for, and what it puts before the message.
use Rattle.std.specs.Prelude.{Bool, true, false, cond, ◌&&◌, List, [], ◌∷◌, ◌++◌, ℕ, eqb, length}
use Rattle.answers.specs.Numbers.{done, bad_key_length, string_too_long, reserved_name}
use Rattle.answers.specs.Done.{first_number, over}
use Rattle.encode.specs.Padding.{rate}
use Rattle.encode.specs.Encode.{encode_string, bytepad, KMAC}
use Rattle.calls.specs.Limits.{max_key, max_name, max_customisation}
use Rattle.calls.specs.Input.{cshake_prefix, cshake_suffix}

-- cSHAKE256 starts with N and S, KMAC256 and KMACXOF256 with K and S
pub data Start : Type 0 where
  named : (N S : List ℕ) → Start
  keyed : (K S : List ℕ) → Start

-- byte for byte the same
abbrev pub same_bytes : List ℕ → List ℕ → Bool
same_bytes [] [] = true
same_bytes [] (y ∷ ys) = false
same_bytes (x ∷ xs) [] = false
same_bytes (x ∷ xs) (y ∷ ys) = eqb x y && same_bytes xs ys

-- the names that the standard's own functions have
abbrev pub is_reserved : List ℕ → Bool
is_reserved N = same_bytes N KMAC

-- 2, 3 or 4 of the table (docs/RULES.md, 'Numbers'), the smallest that applies; 0 for none
unfoldable pub start_refusal : Start → ℕ
start_refusal (named N S) =
    first_number (over (length N) max_name string_too_long)
    (first_number (over (length S) max_customisation string_too_long) (cond (is_reserved N) reserved_name done))
start_refusal (keyed K S) = first_number (over (length K) max_key bad_key_length) (over (length S) max_customisation string_too_long)

-- the bytes before the message, whole blocks
unfoldable pub start_prefix : Start → List ℕ
start_prefix (named N S) = cshake_prefix N S
start_prefix (keyed K S) = cshake_prefix KMAC S ++ bytepad (encode_string K) rate

-- the suffix byte of the padding
unfoldable pub start_suffix : Start → ℕ
start_suffix (named N S) = cshake_suffix N S
start_suffix (keyed K S) = cshake_suffix KMAC S
