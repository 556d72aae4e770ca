-- What one pass over entries keeps: where it stands, how many entries and chutes are behind it, and the destination of the chute that is looked for.
use Rattle.std.specs.Prelude.{ℕ, zero, suc, ◌+◌, ◌≤◌, List, [], ◌∷◌, cond, eqb, length, get_or, Result, Ok, Err}
use Rattle.hall_entry.specs.Entries.{Entry, destinations, Read, reached, breach}
use Rattle.hall_read.specs.declared.Progress.{Progress}
use Rattle.answers.specs.declared.Malformed.{Malformed}

-- the destination of a chute, which count from 1: 0 where there is none
abbrev pub chute_at : ℕ → List ℕ → ℕ
chute_at zero l = 0
chute_at (suc c) l = get_or l c 0

-- what a lookup of chute c has found after chutes numbered from i + 1, where it had found d before them
unfoldable pub kept : ℕ → ℕ → ℕ → List ℕ → ℕ
kept c i d [] = d
kept c i d (v ∷ l) = kept c (i + 1) (cond (eqb (i + 1) c) v d) l

-- a pass at the first entry of the outermost hall
abbrev pub start_at : ℕ → Progress
start_at first = record { at = first; entries = 0; chutes = 0; found = 0 }

-- a pass, past entries
abbrev pub moved_past : ℕ → Progress → List Entry → ℕ → Progress
moved_past c from l next =
    record {
      at = next;
      entries = from.entries + length l;
      chutes = from.chutes + length (destinations l);
      found = kept c from.chutes from.found (destinations l);
    }

-- what passing over entries comes to: the pass, past them, or the place of the first breach
abbrev pub passed_over : {A : Type 0} → ℕ → Progress → Read A → Result Progress Malformed
passed_over c from (reached l next rest) = Ok (moved_past c from l next)
passed_over c from (breach place) = Err (record { place = place })

-- a pass at a hall's first entry, past the hall's kind and its number of entries
abbrev pub inside_hall : Progress → ℕ → Progress
inside_hall from next = record { at = next; entries = from.entries + 1; chutes = from.chutes; found = from.found }

-- a pass that stands in a list of n elements, with no more entries before it than elements
pub record ProgressIn (p : Progress) (n : ℕ) : Type 0 where
  pub counted : p.entries ≤ p.at
  pub inside : p.at ≤ n
