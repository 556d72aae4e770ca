-- A text combined with a stream (KMAC AEAD, 1.2.4 and 1.2.5), and the differences of two strings.
use Rattle.std.specs.Prelude.{List, [], ◌∷◌, ℕ, fold}
use Rattle.std.specs.Int.Bits.{bit_or, bit_xor}
use Rattle.std.specs.List.{zip}

-- by exclusive or, byte for byte; a stream that is longer stands as it is beyond the text
unfoldable pub combined : List ℕ → List ℕ → List ℕ
combined [] stream = stream
combined (x ∷ text) [] = []
combined (x ∷ text) (k ∷ stream) = bit_xor x k ∷ combined text stream

-- by exclusive or, byte for byte, as far as both reach, joined by or
abbrev pub differences : List ℕ → List ℕ → ℕ
differences a b = fold (λ joined p. bit_or joined (bit_xor p.0 p.1)) 0 (zip a b)
