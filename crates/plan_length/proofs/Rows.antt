-- Laws of rows counted one after another: the length so far with the rows to come, by the row that comes next.
use mathlib.Core.Path.{◌≡◌}
use mathlib.Core.List.{List, ◌∷◌}
use mathlib.Core.Bool.{cond, ◌&&◌}
use Prim.Native.Nat.{ℕ, ◌+◌, ◌≤◌, ◌<◌}
use native.Mathlib.Omega.{arith}
use native.Mathlib.Numerals.{add-one}
use lib.ListN.{length, get_or, drop, length-append, drop_of_length-le}
use lib.Seq.{drop-cons}
use lib.Dec.{leb}
use borrow.Author.Tests.{le-leb, lt-leb}
use Rattle.leb128_write.specs.Written.{written_number}
use Rattle.plan_read.specs.Limits.{max_rows, max_destination}
use Rattle.plan_length.specs.Length.{written_rows, rows_allowed, allowed, length_is, no_length, length_of}
use Rattle.plan_length.specs.Laws.{plan_length}
use Rattle.plan_length.specs.declared.PlanLength.{PlanLength}

-- the length of a plan of which n bytes are counted and these rows are to come
abbrev pub length_after : ℕ → List ℕ → PlanLength
length_after n l = cond (rows_allowed l) (length_is (n + length (written_rows l))) no_length

pub length_start : (l : List ℕ) → length l ≤ max_rows → length_after (length (written_number (length l))) l ≡ length_of l
unfolding length_of allowed
length_start l h = rw (le-leb _ _ h, plan_length l)

pub length_many : (l : List ℕ) → max_rows < length l → no_length ≡ length_of l
unfolding length_of allowed
length_many l h = rw (lt-leb _ _ h)

-- the row at an index, and those after it
pub here : (i : ℕ) (l : List ℕ) → i < length l → drop i l ≡ get_or l i 0 ∷ drop (i + 1) l
here i l h = rw (add-one, drop-cons l i 0)

module _ (i : ℕ) (l : List ℕ) (h : i < length l) where
  pub rows_length : length (written_rows (drop i l)) ≡ length (written_number (get_or l i 0)) + length (written_rows (drop (i + 1) l))
  unfolding written_rows
  rows_length = rw (here i l h, length-append)

  pub rows_allowed_lem : rows_allowed (drop i l) ≡ (leb (get_or l i 0) max_destination && rows_allowed (drop (i + 1) l))
  unfolding rows_allowed
  rows_allowed_lem = rw (here i l h)

  pub length_more : (n : ℕ) → get_or l i 0 ≤ max_destination
      → length_after n (drop i l) ≡ length_after (n + length (written_number (get_or l i 0))) (drop (i + 1) l)
  length_more n m =
      let e : n + length (written_rows (drop i l)) ≡ n + length (written_number (get_or l i 0)) + length (written_rows (drop (i + 1) l)) = omega
      (arith, rows_length) in
      rw (e, rows_allowed_lem, le-leb _ _ m)

  pub length_large : (n : ℕ) → max_destination < get_or l i 0 → length_after n (drop i l) ≡ no_length
  length_large n m = rw (rows_allowed_lem, lt-leb _ _ m)

pub length_end : (i n : ℕ) (l : List ℕ) → length l ≤ i → length_after n (drop i l) ≡ length_is n
unfolding rows_allowed written_rows
length_end i n l h = let e : n + 0 ≡ n = omega arith in rw (drop_of_length-le l h, e)
