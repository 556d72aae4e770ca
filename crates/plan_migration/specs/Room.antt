-- What the private functions of migration add up, and ask of their callers. No public contract cites it.
use Rattle.std.specs.Prelude.{ℕ, ◌+◌, ◌≤◌, ◌≡◌, List, [], true, length}
use Rattle.plan_read.specs.Plan.{Plan, rows, refused, row_destinations}
use Rattle.plan_length.specs.Length.{written_rows, written_plan, rows_allowed, allowed, length_is, refused_length}
use Rattle.plan_length.specs.declared.PlanLength.{PlanLength}

-- n bytes, and those of rows that are still to be read
abbrev pub length_with : ℕ → Plan → PlanLength
length_with n (rows l) = length_is (n + length (written_rows (row_destinations l)))
length_with n (refused k place) = refused_length k place

-- rows that were read are allowed, and fit n bytes from the place `to` on
pub record RowsFit (l : List ℕ) (to n : ℕ) : Type 0 where
  pub small : rows_allowed l ≡ true
  pub room : to + length (written_rows l) ≤ n

abbrev pub RowsRoom : Plan → ℕ → ℕ → Type 0
RowsRoom (rows l) to n = RowsFit (row_destinations l) to n
RowsRoom (refused k place) to n = ⊥

-- a plan was read, keeps the rules of writing, and fills n bytes
pub record PlanFits (l : List ℕ) (n : ℕ) : Type 0 where
  pub keeps : allowed l ≡ true
  pub fills : length (written_plan l) ≡ n

abbrev pub PlanRoom : Plan → ℕ → Type 0
PlanRoom (rows l) n = PlanFits (row_destinations l) n
PlanRoom (refused k place) n = ⊥

-- the destinations of the rows that were read
abbrev pub destinations_in : Plan → List ℕ
destinations_in (rows l) = row_destinations l
destinations_in (refused n place) = []
