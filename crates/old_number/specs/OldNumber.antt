-- A number by the old rule (docs/RULES.md, 'Migration'): groups of seven bits, lowest group first, top bit set when another follows, at most three groups,
-- be they more than the number needs.
use Rattle.std.specs.Prelude.{ℕ, zero, suc, ◌+◌, ◌%◌, List, [], ◌∷◌, cond, ltb}
use Rattle.answers.specs.Breaches.{missing_byte, another_group, place_of}
use Rattle.leb128.specs.Number.{Parsed, value, bad, next_group}

-- at most `more` + 1 groups at the place `at`
unfoldable pub old_groups : ℕ → ℕ → List ℕ → Parsed
old_groups more at [] = bad (place_of (missing_byte at))
old_groups zero at (b ∷ rest) = cond (ltb b 128) (value b (at + 1) rest) (bad (place_of (another_group at)))
old_groups (suc more) at (b ∷ rest) = cond (ltb b 128) (value b (at + 1) rest) (next_group (b % 128) (old_groups more (at + 1) rest))

-- at most three groups
abbrev pub old_number : ℕ → List ℕ → Parsed
old_number at s = old_groups 2 at s
