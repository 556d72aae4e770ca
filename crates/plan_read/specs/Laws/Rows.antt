-- Laws of a plan's rows: each lies inside the plan, has one to three bytes, and its bytes alone read as its destination.
use Rattle.std.specs.Prelude.{◌≡◌, List, [], ◌∷◌, Bool, true, false, cond, ℕ, zero, suc, ◌+◌, ◌-◌, ◌<◌, length, get_or, drop, ltb, leb}
use Rattle.std.proofs.Common.{◌∙◌, arith, length-drop, drop-drop}
use Rattle.answers.specs.Numbers.{input_too_long}
use Rattle.leb128.specs.Number.{Parsed, value, bad}
use Rattle.leb128.specs.Laws.Reading.{limit_three, Used, groups_used}
use Rattle.plan_read.specs.Limits.{max_plan, max_rows}
use Rattle.plan_read.specs.Plan.{Plan, rows, refused, malformed, cons_row, after_number, plan_number, row, rows_by, rows_from, plan_in, plan_by, plan_of, no_row}
use Rattle.plan_read.specs.Places.{RowIn}
use Rattle.plan_read.specs.declared.Row.{Row}

abbrev pub RowsIn : List ℕ → Plan → Type 0
RowsIn s (rows l) = (c : ℕ) → c < length l → RowIn s (get_or l c no_row)
RowsIn s (refused n place) = Unit

cons_in : (s : List ℕ) (r : Row) (p : Plan) → RowIn s r → RowsIn s p → RowsIn s (cons_row r p)
cons_in s r (rows l) h a = go
  where
    go : (c : ℕ) → c < suc (length l) → RowIn s (get_or (r ∷ l) c no_row)
    go zero k = h
    go (suc c) k = a c (omega arith)
cons_in s r (refused n place) h a = tt

rows_in : (s : List ℕ) (n at : ℕ) → RowsIn s (rows_from n at (drop at s))
unfolding rows_by
rows_in s zero at = go (drop at s)
  where
    go : (t : List ℕ) → RowsIn s (rows_from zero at t)
    go [] = λ c h. absurd (omega arith)
    go (b ∷ t) = tt
rows_in s (suc n) at = go (plan_number at (drop at s)) (groups_used true 2 at (drop at s)) (λ next. rows_in s n next)
  where
    go : (p : Parsed) → Used true 2 at (drop at s) p → ((next : ℕ) → RowsIn s (rows_from n next (drop next s)))
        → RowsIn s (after_number p (λ v next rest. cons_row (row v at next) (rows_from n next rest)))
    go (value v next rest) u ih =
        let k : at + (next - at) ≡ next = omega (arith, u.some) in
        let e : rest ≡ drop next s = u.left ∙ rw (drop-drop, k) in
        let here : RowIn s (row v at next) =
        record {
          some = u.some;
          at_most_three = u.bounded;
          inside = omega (arith, u.some, u.inside, length-drop at s);
          itself = u.alone;
          small = omega (arith, u.below, limit_three);
        } in
        rw e (cons_in s (row v at next) (rows_from n next (drop next s)) here (ih next))
    go (bad place) u ih = tt

-- every row of a plan lies inside it
pub plan_in_lem : (s : List ℕ) → RowsIn s (plan_of s)
unfolding plan_by
plan_in_lem s = long (ltb max_plan (length s)) (plan_in s) (go (plan_number 0 s) (groups_used true 2 0 s))
  where
    long : (t : Bool) (p : Plan) → RowsIn s p → RowsIn s (cond t (refused input_too_long 0) p)
    long true p a = tt
    long false p a = a

    most : (t : Bool) (p : Plan) → RowsIn s p → RowsIn s (cond t p (malformed 0))
    most true p a = a
    most false p a = tt

    go : (p : Parsed) → Used true 2 0 s p
        → RowsIn s (after_number p (λ count next rest. cond (leb count max_rows) (rows_from count next rest) (malformed 0)))
    go (value v next rest) u =
        let k : next - 0 ≡ next = omega arith in
        let e : rest ≡ drop next s = u.left ∙ rw k in
        rw e (most (leb v max_rows) (rows_from v next (drop next s)) (rows_in s v next))
    go (bad place) u = tt
