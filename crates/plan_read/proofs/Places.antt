-- Where the rows stand: each lies inside the plan by the law of a plan's rows, one starts where the row before it ends since reading goes on there, and the
-- place plays no part in reading.
use mathlib.Core.Path.{◌≡◌, refl, ap, ◌∙◌}
use mathlib.Core.List.{List, [], ◌∷◌}
use mathlib.Core.Bool.{Bool, true, false, cond}
use Prim.Native.Nat.{ℕ, zero, suc, ◌+◌, ◌<◌}
use native.Mathlib.Omega.{arith}
use lib.ListN.{length, get_or, drop}
use lib.Dec.{ltb, leb}
use Rattle.answers.specs.Numbers.{input_too_long}
use Rattle.leb128.specs.Number.{Parsed, value, bad}
use Rattle.leb128.specs.Laws.Reading.{shifted, groups_shifted}
use Rattle.plan_read.specs.Limits.{max_plan, max_rows}
use Rattle.plan_read.specs.Plan.{Plan, rows, refused, malformed, cons_row, after_number, plan_number, row, rows_by, rows_from, plan_in, plan_by, plan_of, no_row}
use Rattle.plan_read.specs.Places.{RowIn, shifted_row, shifted_plan, RowPlaces}
use Rattle.plan_read.specs.Laws.Rows.{plan_in_lem}
use Rattle.plan_read.specs.declared.Row.{Row}

-- rows one after another from a place on: the first starts there, and each other where the row before it ends
Adjoining : ℕ → List Row → Type 0
Adjoining at [] = Unit
Adjoining at (r ∷ l) = (r.start ≡ at) × Adjoining r.end l

adjoining_next : (at : ℕ) (l : List Row) → Adjoining at l → (c : ℕ) → suc c < length l → (get_or l (suc c) no_row).start ≡ (get_or l c no_row).end
unfolding Adjoining
adjoining_next at [] a c h = absurd (omega arith)
adjoining_next at (r ∷ []) a c h = absurd (omega arith)
adjoining_next at (r ∷ q ∷ l) a zero h = a.1.0
adjoining_next at (r ∷ q ∷ l) a (suc c) h = adjoining_next r.end (q ∷ l) a.1 c (omega arith)

abbrev Adjoin : ℕ → Plan → Type 0
Adjoin at (rows l) = Adjoining at l
Adjoin at (refused n place) = Unit

cons_adjoin : (at v next : ℕ) (p : Plan) → Adjoin next p → Adjoin at (cons_row (row v at next) p)
unfolding Adjoining
cons_adjoin at v next (rows l) a = (refl, a)
cons_adjoin at v next (refused n place) a = tt

rows_adjoin : (n at : ℕ) (s : List ℕ) → Adjoin at (rows_from n at s)
unfolding rows_by Adjoining
rows_adjoin zero at [] = tt
rows_adjoin zero at (b ∷ s) = tt
rows_adjoin (suc n) at s = go (plan_number at s) (λ next rest. rows_adjoin n next rest)
  where
    go : (p : Parsed) → ((next : ℕ) (rest : List ℕ) → Adjoin next (rows_from n next rest))
        → Adjoin at (after_number p (λ v next rest. cons_row (row v at next) (rows_from n next rest)))
    go (value v next rest) ih = cons_adjoin at v next (rows_from n next rest) (ih next rest)
    go (bad place) ih = tt

-- row c + 1 starts where row c ends
abbrev NextStart : Plan → Type 0
NextStart (rows l) = (c : ℕ) → suc c < length l → (get_or l (suc c) no_row).start ≡ (get_or l c no_row).end
NextStart (refused n place) = Unit

plan_next : (s : List ℕ) → NextStart (plan_of s)
unfolding plan_by
plan_next s = pick (ltb max_plan (length s)) (refused input_too_long 0) (plan_in s) tt (go (plan_number 0 s))
  where
    pick : (t : Bool) (p q : Plan) → NextStart p → NextStart q → NextStart (cond t p q)
    pick true p q a b = a
    pick false p q a b = b

    adjoined : (at : ℕ) (p : Plan) → Adjoin at p → NextStart p
    adjoined at (rows l) a = adjoining_next at l a
    adjoined at (refused n place) a = tt

    go : (p : Parsed) → NextStart (after_number p (λ count next rest. cond (leb count max_rows) (rows_from count next rest) (malformed 0)))
    go (value v next rest) = pick (leb v max_rows) (rows_from v next rest) (malformed 0) (adjoined next (rows_from v next rest) (rows_adjoin v next rest)) tt
    go (bad place) = tt

next_start : (s : List ℕ) (l : List Row) → plan_of s ≡ rows l → (c : ℕ) → suc c < length l → (get_or l (suc c) no_row).start ≡ (get_or l c no_row).end
next_start s l e = rw e at (plan_next s)

cons_shifted : (k : ℕ) (r : Row) (p : Plan) → cons_row (shifted_row k r) (shifted_plan k p) ≡ shifted_plan k (cons_row r p)
cons_shifted k r (rows l) = refl
cons_shifted k r (refused n place) = refl

-- the same bytes, read k places on
rows_shifted : (n at k : ℕ) (s : List ℕ) → rows_from n (at + k) s ≡ shifted_plan k (rows_from n at s)
unfolding rows_by
rows_shifted zero at k [] = refl
rows_shifted zero at k (b ∷ s) = refl
rows_shifted (suc n) at k s = rw (groups_shifted true 2 at k s) (go (plan_number at s) (λ next rest. rows_shifted n next k rest))
  where
    go : (p : Parsed) → ((next : ℕ) (rest : List ℕ) → rows_from n (next + k) rest ≡ shifted_plan k (rows_from n next rest))
        → after_number (shifted k p) (λ v next rest. cons_row (row v (at + k) next) (rows_from n next rest))
        ≡ shifted_plan k (after_number p (λ v next rest. cons_row (row v at next) (rows_from n next rest)))
    go (value v next rest) ih = rw (ih next rest) (cons_shifted k (row v at next) (rows_from n next rest))
    go (bad place) ih = refl

-- a part of a plan, from a place on: its rows read from its own start are those of the plan from there
part_rows : (n at : ℕ) (s : List ℕ) → rows_from n at (drop at s) ≡ shifted_plan at (rows_from n 0 (drop at s))
part_rows n at s = let k : at ≡ 0 + at = omega arith in ap (λ (m : ℕ). rows_from n m (drop at s)) k ∙ rows_shifted n 0 at (drop at s)

inside : (s : List ℕ) (l : List Row) → plan_of s ≡ rows l → (c : ℕ) → c < length l → RowIn s (get_or l c no_row)
inside s l e = rw e at (plan_in_lem s)

pub row_places : RowPlaces
row_places = record { inside = inside; next_start = next_start; part_rows = part_rows }
