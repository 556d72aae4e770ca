-- Halls outside their bytes (docs/RULES.md, 'Hall plan'): the outermost number of entries, and two lists of equal length, which hold each entry's kind, and its
-- destination or its hall's number of entries. They keep the rules where reading entries from the lists, as it is read from bytes, passes over all of them.
use Rattle.std.specs.Prelude.{ℕ, ◌+◌, List, [], ◌∷◌, Bool, true, false, cond, ◌&&◌, leb, eqb, length}
use Rattle.leb128.specs.Number.{max_number}
use Rattle.hall_entry.specs.Limits.{levels_below}
use Rattle.hall_entry.specs.Entries.{Entry, entry, kind_allowed, Head, first, wrong, Read, reached, breach, entries_of}

-- the entries of two lists
unfoldable pub pairs : List ℕ → List ℕ → List Entry
pairs [] values = []
pairs (k ∷ kinds) [] = []
pairs (k ∷ kinds) (v ∷ values) = entry k v ∷ pairs kinds values

-- an entry may stand where its kind may, if three groups hold its value
abbrev pub entry_allowed : ℕ → ℕ → Entry → Bool
entry_allowed levels chutes e = kind_allowed levels chutes e.kind && leb e.value max_number

-- the entry that stands first in a list of entries
unfoldable pub list_head : ℕ → ℕ → ℕ → List Entry → Head Entry
list_head levels chutes at [] = wrong at
list_head levels chutes at (e ∷ l) = cond (entry_allowed levels chutes e) (first e.kind e.value (at + 1) l) (wrong at)

-- all entries were read
abbrev pub all_read : Read Entry → Bool
all_read (reached l next []) = true
all_read (reached l next (e ∷ rest)) = false
all_read (breach place) = false

-- an outermost number of entries and the entries keep the rules
unfoldable pub halls_allowed : ℕ → List Entry → Bool
halls_allowed outer l = leb outer max_number && all_read (entries_of list_head levels_below outer 0 0 l)

unfoldable pub lists_allowed : ℕ → List ℕ → List ℕ → Bool
lists_allowed outer kinds values = eqb (length kinds) (length values) && halls_allowed outer (pairs kinds values)
