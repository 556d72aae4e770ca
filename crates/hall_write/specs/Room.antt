-- What the stores of entries ask of their caller. No public contract cites it.
use Rattle.std.specs.Prelude.{ℕ, ◌+◌, ◌≤◌, List, length}
use Rattle.hall_check.specs.Lists.{pairs}
use Rattle.hall_length.specs.Written.{written_entries}
use Rattle.hall_length.specs.Room.{ListsFit}

pub record EntriesRoom (kinds values : List ℕ) (first n : ℕ) : Type 0 where
  pub lists : ListsFit kinds values
  pub room : first + length (written_entries (pairs kinds values)) ≤ n
