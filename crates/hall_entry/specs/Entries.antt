-- Halls and entries (docs/RULES.md, 'Hall plan'): a hall holds entries, and an entry is a chute or holds a hall. What is said here holds of entries read from
-- any list, be it the bytes of a hall plan or the entries that stand outside its bytes: `head` reads the entry that stands first.
use Rattle.std.specs.Prelude.{ℕ, zero, suc, ◌+◌, List, [], ◌∷◌, ◌++◌, map, Bool, false, cond, ltb, eqb, length}
use Rattle.hall_entry.specs.Limits.{max_chutes}

-- the kinds of entries
abbrev pub chute_kind : ℕ
chute_kind = 0

abbrev pub hall_kind : ℕ
hall_kind = 1

-- an entry, in reading order: its kind, and its destination or its hall's number of entries
pub record Entry : Type 0 where
  pub kind : ℕ
  pub value : ℕ

abbrev pub entry : ℕ → ℕ → Entry
entry k v = record { kind = k; value = v }

-- the two lists that hold entries outside their bytes
abbrev pub kinds_of : List Entry → List ℕ
kinds_of l = map (λ (e : Entry). e.kind) l

abbrev pub values_of : List Entry → List ℕ
values_of l = map (λ (e : Entry). e.value) l

-- the destinations of the chutes among entries, in reading order
unfoldable pub destinations : List Entry → List ℕ
destinations [] = []
destinations (e ∷ l) = cond (eqb e.kind chute_kind) (e.value ∷ destinations l) (destinations l)

-- whether an entry of a kind may stand where `levels` levels are left below and `chutes` chutes stand before it
abbrev pub kind_allowed : ℕ → ℕ → ℕ → Bool
kind_allowed levels chutes zero = ltb chutes max_chutes
kind_allowed levels chutes (suc zero) = ltb 0 levels
kind_allowed levels chutes (suc (suc k)) = false

-- what stands first in a list, from a place on: an entry's kind and value, the place past these and the list from there on; or the place of a breach
pub data Head (A : Type 0) : Type 0 where
  first : ℕ → ℕ → ℕ → List A → Head A
  wrong : ℕ → Head A

-- what reading entries comes to: the entries, the place past them and the list from there on; or the place of the first breach
pub data Read (A : Type 0) : Type 0 where
  reached : List Entry → ℕ → List A → Read A
  breach : ℕ → Read A

module _ {A : Type 0} where
  abbrev pub prepend : List Entry → Read A → Read A
  prepend l (reached k next rest) = reached (l ++ k) next rest
  prepend l (breach place) = breach place

  -- reading goes on after entries
  abbrev pub and_then : Read A → (List Entry → ℕ → List A → Read A) → Read A
  and_then (reached l next rest) go = prepend l (go l next rest)
  and_then (breach place) go = breach place

  -- an entry whose kind and value were read: a hall's entries follow
  abbrev pub after_head : Head A → (ℕ → ℕ → List A → Read A) → Read A
  after_head (first k v next rest) inner = prepend (entry k v ∷ []) (cond (eqb k chute_kind) (reached [] next rest) (inner v next rest))
  after_head (wrong place) inner = breach place

  -- `head levels chutes at s` reads the entry that stands first in s, from the place `at` on, where so many levels are left and so many chutes stand before
  module _ (head : ℕ → ℕ → ℕ → List A → Head A) where
    -- `inner n at chutes s` reads the n entries of a hall
    abbrev pub entry_with : ℕ → (ℕ → ℕ → ℕ → List A → Read A) → ℕ → ℕ → List A → Read A
    entry_with levels inner at chutes s = after_head (head levels chutes at s) (λ n next rest. inner n next chutes rest)

    unfoldable pub entries_with : ℕ → (ℕ → ℕ → ℕ → List A → Read A) → ℕ → ℕ → ℕ → List A → Read A
    entries_with levels inner zero at chutes s = reached [] at s
    entries_with levels inner (suc n) at chutes s =
        and_then (entry_with levels inner at chutes s) (λ l next rest. entries_with levels inner n next (chutes + length (destinations l)) rest)

    -- the entries of a hall in one below which `levels` levels are left; no hall stands in one below which none is left
    unfoldable pub inner_of : ℕ → ℕ → ℕ → ℕ → List A → Read A
    inner_of zero n at chutes s = breach at
    inner_of (suc levels) n at chutes s = entries_with levels (inner_of levels) n at chutes s

    -- the n entries of a hall below which `levels` levels are left, and one entry of it
    abbrev pub entries_of : ℕ → ℕ → ℕ → ℕ → List A → Read A
    entries_of levels n at chutes s = entries_with levels (inner_of levels) n at chutes s

    abbrev pub entry_of : ℕ → ℕ → ℕ → List A → Read A
    entry_of levels at chutes s = entry_with levels (inner_of levels) at chutes s
