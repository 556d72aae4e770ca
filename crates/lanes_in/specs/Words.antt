-- Eight bytes as one number.
use Rattle.std.specs.Prelude.{cond, List, ℕ, ◌+◌, ltb, length, take, drop}
use Rattle.encode.specs.Digits.{number_of}

-- the eight bytes of s from `at` on, the lowest first; 0 where there are not so many
unfoldable pub word_at : List ℕ → ℕ → ℕ
word_at s at = cond (ltb (length s) (at + 8)) 0 (number_of 256 (take 8 (drop at s)))
