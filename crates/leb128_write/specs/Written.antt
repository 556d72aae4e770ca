-- A number written (docs/RULES.md, 'Chute plan'): in the fewest groups, lowest group first, top bit set when another follows.
use Rattle.std.specs.Prelude.{ℕ, zero, suc, ◌+◌, ◌/◌, ◌%◌, List, [], ◌∷◌, cond, ltb}

-- the fewest groups of a number that takes at most `more` + 1
unfoldable pub written_groups : ℕ → ℕ → List ℕ
written_groups zero v = v ∷ []
written_groups (suc more) v = cond (ltb v 128) (v ∷ []) ((128 + v % 128) ∷ written_groups more (v / 128))

abbrev pub written_number : ℕ → List ℕ
written_number v = written_groups 2 v
