-- A hall as it stands in a building (docs/RULES.md, 'Hall plan'): its entries one after another, each a chute with its destination or again a hall. Bytes and
-- readers play no part here.
use Rattle.std.specs.Prelude.{ℕ, suc, ◌≤◌, max, List, [], ◌∷◌, ◌++◌, length}
use Rattle.leb128.specs.Number.{max_number}
use Rattle.hall_entry.specs.Limits.{max_chutes, max_levels}
use Rattle.hall_entry.specs.Entries.{Entry, entry, chute_kind, hall_kind}

-- a hall by its entries: none, or a chute or a hall and then the entries after it
pub data Hall : Type 0 where
  none : Hall
  chute : ℕ → Hall → Hall
  inner : Hall → Hall → Hall

-- its number of entries
unfoldable pub count : Hall → ℕ
count none = 0
count (chute d more) = suc (count more)
count (inner h more) = suc (count more)

-- its entries in reading order, those of the halls in it too
unfoldable pub listed : Hall → List Entry
listed none = []
listed (chute d more) = entry chute_kind d ∷ listed more
listed (inner h more) = entry hall_kind (count h) ∷ (listed h ++ listed more)

-- the destinations of its chutes in reading order, those of the halls in it too
unfoldable pub destinations_of : Hall → List ℕ
destinations_of none = []
destinations_of (chute d more) = d ∷ destinations_of more
destinations_of (inner h more) = destinations_of h ++ destinations_of more

-- its levels: itself, and those of the halls in it
unfoldable pub levels_of : Hall → ℕ
levels_of none = 1
levels_of (chute d more) = levels_of more
levels_of (inner h more) = max (suc (levels_of h)) (levels_of more)

-- three groups hold each destination, and the number of entries of each hall in it
unfoldable pub NumbersFit : Hall → Type 0
NumbersFit none = Unit
NumbersFit (chute d more) = (d ≤ max_number) × NumbersFit more
NumbersFit (inner h more) = (count h ≤ max_number) × (NumbersFit h × NumbersFit more)

-- what a hall plan may hold
pub record HallLimits (h : Hall) : Type 0 where
  pub eight_levels_lem : levels_of h ≤ max_levels
  pub few_chutes : length (destinations_of h) ≤ max_chutes
  pub outer_fits : count h ≤ max_number
  pub fits : NumbersFit h
