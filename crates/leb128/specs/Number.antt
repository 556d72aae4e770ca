-- Seven-bit numbers (LEB128; docs/RULES.md, 'Chute plan'): groups of seven bits, lowest group first, top bit set when another follows, at most three groups
-- and no more than the number needs.
use Rattle.std.specs.Prelude.{ℕ, zero, suc, ◌+◌, ◌*◌, ◌%◌, List, [], ◌∷◌, Bool, true, false, cond, ◌||◌, ltb}
use Rattle.answers.specs.Breaches.{missing_byte, another_group, empty_group, place_of}

-- What a list of bytes, the first of which stands at some place, starts with: a number, the place past it and the bytes from there on; or the
-- place at which reading failed: the first byte missing, the last byte allowed when it promises another, or a last group that is more than needed.
pub data Parsed : Type 0 where
  value : ℕ → ℕ → List ℕ → Parsed
  bad : ℕ → Parsed

-- a last group: it is 0 only where it is the number's first, else the number needs fewer groups
abbrev pub last_group : Bool → ℕ → ℕ → List ℕ → Parsed
last_group is_first b at rest = cond (is_first || ltb 0 b) (value b (at + 1) rest) (bad (place_of (empty_group at)))

-- a group, and the number that the groups after it make
abbrev pub next_group : ℕ → Parsed → Parsed
next_group group (value v next rest) = value (group + 128 * v) next rest
next_group group (bad place) = bad place

-- at most `more` + 1 groups at the place `at`; `is_first` says whether the number begins there
unfoldable pub groups : Bool → ℕ → ℕ → List ℕ → Parsed
groups is_first more at [] = bad (place_of (missing_byte at))
groups is_first zero at (b ∷ rest) = cond (ltb b 128) (last_group is_first b at rest) (bad (place_of (another_group at)))
groups is_first (suc more) at (b ∷ rest) =
    cond (ltb b 128) (last_group is_first b at rest) (next_group (b % 128) (groups false more (at + 1) rest))

-- at most three groups
abbrev pub number : ℕ → List ℕ → Parsed
number at s = groups true 2 at s

-- a number of at most `more` + 1 groups is below this
unfoldable pub limit : ℕ → ℕ
limit zero = 128
limit (suc more) = 128 * limit more

-- the largest of three groups
abbrev pub max_number : ℕ
max_number = 2097151
