-- What `left_encode`, `right_encode` and `left_code` hand back.
use Rattle.std.specs.Prelude.{◌≡◌, List, ◌++◌, ℕ, ◌-◌, ◌≤◌, length, replicate}
use Rattle.encode.specs.declared.Encoded.{Encoded}
use Rattle.encode.specs.declared.Code.{Code}
use Rattle.encode.specs.Digits.{number_of}

-- the code in the first of nine bytes, zeros in the others, and the code's length
unfoldable pub encoded : List ℕ → Encoded
encoded code = record { bytes = code ++ replicate (9 - length code) 0; len = length code }

-- the answer for a code, which is never longer than the nine bytes
pub record Answers (code : List ℕ) (r : Encoded) : Type 0 where
  pub is : r ≡ encoded code
  pub fits : r.len ≤ 9
  pub nine : length r.bytes ≡ 9

-- the code as one word, its first byte the lowest, and its length
unfoldable pub code_of : List ℕ → Code
code_of code = record { word = number_of 256 code; len = length code }
