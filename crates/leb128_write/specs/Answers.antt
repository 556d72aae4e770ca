-- The answers of writing one number, and of asking how many bytes it takes.
use Rattle.std.specs.Prelude.{ℕ, zero, suc, ◌+◌, List, Bool, cond, ◌&&◌, Option, Some, None, leb, length}
use Rattle.std.proofs.lemmas.List.Edits.{sets}
use Rattle.leb128.specs.Number.{max_number}
use Rattle.leb128_write.specs.Written.{written_number}

-- how many bytes a number takes: none where it is above the largest
unfoldable pub number_length : ℕ → ℕ
number_length v = cond (leb v max_number) (length (written_number v)) 0

-- a number is not above the largest, and there is room for it at a place of n bytes
unfoldable pub number_fits : ℕ → ℕ → ℕ → Bool
number_fits at v n = leb v max_number && leb (at + length (written_number v)) n

-- the place past a number that was written, which is never 0; and 0 where it was not
unfoldable pub written_past : ℕ → ℕ → ℕ → ℕ
written_past at v n = cond (number_fits at v n) (at + length (written_number v)) 0

-- what the lent buffer holds afterwards
unfoldable pub number_written : ℕ → ℕ → List ℕ → List ℕ
number_written at v out = cond (number_fits at v (length out)) (sets out at (written_number v)) out

-- the code's answers: a length is at least 1 and a written place is past a byte, so that 0 is none
abbrev pub unless_zero : ℕ → Option ℕ
unless_zero zero = None
unless_zero (suc n) = Some (suc n)
