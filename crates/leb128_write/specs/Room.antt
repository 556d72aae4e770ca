-- Groups stored at a place, if there is room for them: the place past them, and what the lent buffer holds afterwards. No public contract cites these.
use Rattle.std.specs.Prelude.{ℕ, ◌+◌, List, cond, Option, Some, None, leb, length}
use Rattle.std.proofs.lemmas.List.Edits.{sets}

abbrev pub past_groups : ℕ → List ℕ → ℕ → Option ℕ
past_groups at groups n = cond (leb (at + length groups) n) (Some (at + length groups)) None

abbrev pub groups_stored : ℕ → List ℕ → List ℕ → List ℕ
groups_stored at groups out = cond (leb (at + length groups) (length out)) (sets out at groups) out
