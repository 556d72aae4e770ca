-- What the stores of rows ask of their caller. No public contract cites it.
use Rattle.std.specs.Prelude.{ℕ, ◌+◌, ◌≤◌, ◌≡◌, List, true, length}
use Rattle.plan_length.specs.Length.{written_rows, rows_allowed}

pub record RowsRoom (l : List ℕ) (first n : ℕ) : Type 0 where
  pub small : rows_allowed l ≡ true
  pub room : first + length (written_rows l) ≤ n
