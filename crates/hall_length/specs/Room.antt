-- What the counter of entries asks of its caller: lists of equal length, and three groups that hold each number. No public contract cites it.
use Rattle.std.specs.Prelude.{ℕ, ◌≡◌, List, length}
use Rattle.hall_check.specs.Lists.{pairs}
use Rattle.hall_check.specs.Laws.Taken.{EntriesFit}

pub record ListsFit (kinds values : List ℕ) : Type 0 where
  pub equal : length kinds ≡ length values
  pub fit : EntriesFit (pairs kinds values)
