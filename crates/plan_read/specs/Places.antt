-- Where the rows of a plan stand, and their bytes.
use Rattle.std.specs.Prelude.{ℕ, suc, ◌+◌, ◌-◌, ◌≤◌, ◌<◌, ◌≡◌, List, [], map, length, take, drop}
use Rattle.leb128.specs.Number.{value}
use Rattle.plan_read.specs.Limits.{max_destination}
use Rattle.plan_read.specs.Plan.{Plan, rows, refused, plan_number, row, rows_from, plan_of, row_at}
use Rattle.plan_read.specs.declared.Row.{Row}

-- the bytes of a row: those from its start to its end
abbrev pub bytes_of : Row → List ℕ → List ℕ
bytes_of r s = take (r.end - r.start) (drop r.start s)

-- a row lies inside a plan, has one to three bytes, and these alone read as its destination and nothing more
pub record RowIn (s : List ℕ) (r : Row) : Type 0 where
  pub some : r.start + 1 ≤ r.end
  pub at_most_three : r.end ≤ r.start + 3
  pub inside : r.end ≤ length s
  pub itself : plan_number r.start (bytes_of r s) ≡ value r.destination r.end []
  pub small : r.destination ≤ max_destination

-- rows, k places on
abbrev pub shifted_row : ℕ → Row → Row
shifted_row k r = row r.destination (r.start + k) (r.end + k)

abbrev pub shifted_plan : ℕ → Plan → Plan
shifted_plan k (rows l) = rows (map (shifted_row k) l)
shifted_plan k (refused n place) = refused n (place + k)

-- of a plan that is not refused, at every chute that it has
pub record RowPlaces : Type 0 where
  pub inside : (s : List ℕ) (l : List Row) → plan_of s ≡ rows l → (c : ℕ) → c < length l → RowIn s (row_at (suc c) l)
  -- a row starts where the row before it ends
  pub next_start : (s : List ℕ) (l : List Row) → plan_of s ≡ rows l → (c : ℕ) → suc c < length l → (row_at (suc (suc c)) l).start ≡ (row_at (suc c) l).end
  -- a part of a plan, from a place on: its rows read from its own start are those of the plan from there
  pub part_rows : (n at : ℕ) (s : List ℕ) → rows_from n at (drop at s) ≡ shifted_plan at (rows_from n 0 (drop at s))
