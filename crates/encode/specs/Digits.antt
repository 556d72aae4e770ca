-- Numbers as digits to a base b, the lowest digit first: the bytes of an encoded length (SP 800-185, 2.3.1) are digits to the base 256.
use Rattle.std.specs.Prelude.{true, false, List, [], ◌∷◌, ℕ, zero, suc, ◌+◌, ◌*◌, ◌/◌, ◌%◌, ltb}

-- the k lowest digits of n
abbrev pub digits : ℕ → ℕ → ℕ → List ℕ
digits b zero n = []
digits b (suc k) n = n % b ∷ digits b k (n / b)

-- the number whose digits these are
abbrev pub number_of : ℕ → List ℕ → ℕ
number_of b [] = 0
number_of b (d ∷ ds) = number_of b ds * b + d

-- the fewest digits, at least one, that hold n, found in at most `steps` divisions
unfoldable pub width_in : ℕ → ℕ → ℕ → ℕ
width_in b zero n = 1
width_in b (suc steps) n = elim (ltb n b) [ true ↦ 1 | false ↦ suc (width_in b steps (n / b)) ]

-- n divisions are always enough
abbrev pub width : ℕ → ℕ → ℕ
width b n = width_in b n n
