-- A block put in where the lanes stand: row y of its lanes, of the bytes of s from `at` on, into the even columns p and the odd columns q. No public contract
-- cites it.
use Rattle.std.specs.Prelude.{List, ℕ, ◌+◌, ◌*◌, get_or, set}
use Rattle.std.specs.Int.Bits.{bit_xor}
use Rattle.lanes_in.specs.Words.{word_at}

-- w put into element i by exclusive or
abbrev pub xored_at : List ℕ → ℕ → ℕ → List ℕ
xored_at l i w = set l i (bit_xor (get_or l i 0) w)

abbrev pub evens_with : ℕ → List ℕ → ℕ → List ℕ → List ℕ
evens_with y s at p =
    xored_at
    (xored_at (xored_at p (3 * y) (word_at s (at + 40 * y))) (3 * y + 1) (word_at s (at + 40 * y + 16)))
    (3 * y + 2) (word_at s (at + 40 * y + 32))

abbrev pub odds_with : ℕ → List ℕ → ℕ → List ℕ → List ℕ
odds_with y s at q = xored_at (xored_at q (2 * y) (word_at s (at + 40 * y + 8))) (2 * y + 1) (word_at s (at + 40 * y + 24))
