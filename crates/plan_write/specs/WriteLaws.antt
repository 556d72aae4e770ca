-- Laws of a plan written: how long it is, and that it reads as its rows.
use Rattle.std.specs.Prelude.{◌≡◌, refl, List, [], ◌∷◌, ◌++◌, true, ℕ, ◌+◌, ◌*◌, ◌≤◌, length, leb}
use Rattle.std.proofs.Common.{ap, arith, length-append, le-ltb, le-leb, leb-true}
use Rattle.leb128_write.specs.Written.{written_number}
use Rattle.leb128_write.proofs.Laws.{groups_count, number_read}
use Rattle.plan_read.specs.Limits.{max_plan, max_rows, max_destination}
use Rattle.plan_read.specs.Plan.{rows, row, rows_by, rows_from, plan_by, plan_of, row_destinations}
use Rattle.plan_read.specs.declared.Row.{Row}
use Rattle.plan_length.specs.Length.{written_rows, written_plan, rows_allowed}
use Rattle.plan_length.specs.Laws.{and_left, and_right}

-- the rows that are written, from a place on: their destinations are the list
pub placed : ℕ → List ℕ → List Row
placed at [] = []
placed at (v ∷ l) = row v at (at + length (written_number v)) ∷ placed (at + length (written_number v)) l

pub placed_destinations : (at : ℕ) (l : List ℕ) → row_destinations (placed at l) ≡ l
unfolding placed
placed_destinations at [] = refl
placed_destinations at (v ∷ l) = ap (λ (m : List ℕ). v ∷ m) (placed_destinations (at + length (written_number v)) l)

rows_back : (at : ℕ) (l : List ℕ) → rows_allowed l ≡ true → rows_from (length l) at (written_rows l) ≡ rows (placed at l)
unfolding rows_by written_rows rows_allowed placed
rows_back at [] ok = refl
rows_back at (v ∷ l) ok =
    let h : v ≤ max_destination = leb-true v max_destination (and_left (leb v max_destination) (rows_allowed l) ok) in
    rw (number_read at v h (written_rows l), rows_back (at + length (written_number v)) l (and_right (leb v max_destination) (rows_allowed l) ok))

-- a written plan is short
pub rows_short : (l : List ℕ) → length (written_rows l) ≤ 3 * length l
unfolding written_rows
rows_short [] = omega arith
rows_short (v ∷ l) = rw length-append (omega (arith, groups_count 2 v, rows_short l))

pub plan_back : (l : List ℕ) → length l ≤ max_rows → rows_allowed l ≡ true → plan_of (written_plan l) ≡ rows (placed (length (written_number (length l))) l)
unfolding plan_by written_plan
plan_back l h ok =
    let n : ℕ = length (written_number (length l)) in
    let k : length l ≤ max_destination = omega arith in
    let z : 0 + n ≡ n = omega arith in
    let short : length (written_number (length l) ++ written_rows l) ≤ max_plan =
    omega (arith, length-append (written_number (length l)) (written_rows l), groups_count 2 (length l), rows_short l) in
    rw (le-ltb _ _ short, number_read 0 (length l) k (written_rows l), z, le-leb _ _ h) (rows_back n l ok)
