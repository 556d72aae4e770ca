-- The entries of a hall plan stand one after another in its bytes, whatever the halls: a hall's follow it at once.
use Rattle.std.specs.Prelude.{ℕ, zero, suc, ◌≤◌, ◌≡◌, List, [], ◌∷◌, length, drop}
use Rattle.std.proofs.lemmas.List.Edits.{sets}
use Rattle.leb128.specs.Number.{Parsed, value, bad}
use Rattle.hall_entry.specs.Entries.{Entry, entry, kinds_of, values_of, Head, first, wrong}
use Rattle.hall_entry.specs.Bytes.{entry_head}

-- where the entries start: past the outermost number
abbrev pub entries_start : Parsed → ℕ
entries_start (value n next rest) = next
entries_start (bad place) = 0

abbrev pub cons_entry : Head ℕ → (ℕ → List ℕ → List Entry) → List Entry
cons_entry (first k v next rest) more = entry k v ∷ more next rest
cons_entry (wrong place) more = []

-- n entries at the place `at`; a level is left and no chute stands before, so that either kind may stand
unfoldable pub in_sequence : ℕ → ℕ → List ℕ → List Entry
in_sequence zero at s = []
in_sequence (suc n) at s = cons_entry (entry_head at s) (λ next rest. in_sequence n next rest)

-- what the stores of entries ask of their caller: a place inside the plan, and lists of equal length. No public contract cites it.
pub record ListsRoom (start : ℕ) (s kinds values : List ℕ) : Type 0 where
  pub inside : start ≤ length s
  pub equal : length values ≡ length kinds

-- the stores of entries from a place of s on, as many as the lists have elements, leave `k` and `v` in them
pub record StoresEntries (start : ℕ) (s kinds values k v : List ℕ) : Type 0 where
  pub kinds_stored : k ≡ sets kinds 0 (kinds_of (in_sequence (length kinds) start (drop start s)))
  pub values_stored : v ≡ sets values 0 (values_of (in_sequence (length kinds) start (drop start s)))
