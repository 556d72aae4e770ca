-- Laws of a hall plan's bytes: how many they are, by the entry that comes next, and that three groups hold the numbers of lists that keep the rules.
use Rattle.std.specs.Prelude.{◌≡◌, List, [], true, ℕ, ◌+◌, ◌≤◌, ◌<◌, get_or, drop}
use Rattle.std.proofs.Common.{arith, drop_of_length-le}
use Rattle.std.proofs.Math.ListN.{length, length-append}
use Rattle.leb128.specs.Number.{max_number}
use Rattle.leb128_write.specs.Written.{written_number}
use Rattle.hall_entry.specs.Limits.{levels_below}
use Rattle.hall_entry.specs.Entries.{Entry}
use Rattle.hall_check.specs.Lists.{pairs, lists_allowed}
use Rattle.hall_check.specs.Laws.Pairs.{length_pairs, drop_pairs}
use Rattle.hall_check.specs.Laws.Taken.{EntriesFit, lists_known, read_whole}
use Rattle.hall_length.specs.Written.{written_entries, written_halls}
use Rattle.hall_length.specs.Room.{ListsFit}

pub halls_length : (outer : ℕ) (l : List Entry) → length (written_halls outer l) ≡ length (written_number outer) + length (written_entries l)
unfolding written_halls
halls_length outer l = rw length-append

pub lists_fit_lem : (outer : ℕ) (kinds values : List ℕ) → lists_allowed outer kinds values ≡ true → ListsFit kinds values
lists_fit_lem outer kinds values ok =
    let a = lists_known outer kinds values ok in
    record { equal = a.equal; fit = (read_whole levels_below outer 0 0 (pairs kinds values) a.all_read).fit }

-- the entry at an index, and those after it
module _ (kinds values : List ℕ) (i : ℕ) (equal : length kinds ≡ length values) where
  module _ (h : i < length kinds) where
    pub next_fit : EntriesFit (drop i (pairs kinds values))
        → (get_or kinds i 0 ≤ max_number) × ((get_or values i 0 ≤ max_number) × EntriesFit (drop (i + 1) (pairs kinds values)))
    unfolding EntriesFit
    next_fit a = rw (drop_pairs kinds values i equal h) at a

    pub next_length : length (written_entries (drop i (pairs kinds values))) ≡
        length (written_number (get_or kinds i 0))
        + (length (written_number (get_or values i 0)) + length (written_entries (drop (i + 1) (pairs kinds values))))
    unfolding written_entries
    next_length = rw (drop_pairs kinds values i equal h, length-append, length-append)

  pub none_left : length kinds ≤ i → written_entries (drop i (pairs kinds values)) ≡ []
  unfolding written_entries
  none_left h =
      let k : length (pairs kinds values) ≤ i = omega (arith, length_pairs kinds values equal) in
      rw (drop_of_length-le (pairs kinds values) k)
