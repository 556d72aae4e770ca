-- Laws of the rows read one after another: from the row reader's answer back to the number, and what the lookup keeps while rows are read.
use mathlib.Core.Path.{◌≡◌, refl, sym, ap, subst, ◌∙◌}
use mathlib.Core.List.{List, [], ◌∷◌}
use mathlib.Core.Bool.{true, cond}
use Prim.Native.Nat.{ℕ, zero, suc, ◌+◌, ◌-◌, ◌≤◌, ◌<◌}
use native.Mathlib.Omega.{arith}
use lib.ListN.{length, drop, drop_of_length-le}
use lib.Dec.{eqb}
use borrow.Author.Tests.{eq-eqb, ne_eqb}
use Rattle.std.specs.Prelude.{Option, Some, None, Result, Ok, Err}
use Rattle.answers.specs.Places.{plan_refusal_of}
use Rattle.answers.specs.declared.Malformed.{Malformed}
use Rattle.answers.specs.declared.PlanRefusal.{PlanRefusal}
use Rattle.leb128.specs.Number.{Parsed, value, bad, groups}
use Rattle.leb128.specs.Laws.Reading.{Rest, groups_rest}
use Rattle.plan_read.specs.Plan.{plan_number, row, row_answer, Plan, rows, refused, cons_row, rows_from}
use Rattle.plan_read.specs.Plan.{row_if, plan_answer}
use Rattle.plan_read.specs.Laws.Reading.{rows_more, rows_bad, rows_over, rows_end}
use Rattle.plan_read.specs.declared.Row.{Row}
use Rattle.plan_read.specs.declared.PlanRead.{PlanRead}

row_known : (at : ℕ) (s : List ℕ) (p : Parsed) (r : Row) → Rest at s p → row_answer at p ≡ Ok r
    → (p ≡ value r.destination r.end (drop r.end s)) × (r ≡ row r.destination at r.end)
row_known at s (value v n rest) r u e =
    let er : row v at n ≡ r = cc in
    subst (λ (q : Row). (value v n rest ≡ value q.destination q.end (drop q.end s)) × (q ≡ row q.destination at q.end)) er
    (ap (value v n) u.1, refl)
row_known at s (bad place) r u e = let z : ◌≡◌ {A = ℕ} 0 1 = cc in absurd (omega arith)

pub row_found_lem : (at : ℕ) (s : List ℕ) (r : Row) → row_answer at (plan_number at (drop at s)) ≡ Ok r
    → (plan_number at (drop at s) ≡ value r.destination r.end (drop r.end s)) × (r ≡ row r.destination at r.end)
row_found_lem at s r e = row_known at s (plan_number at (drop at s)) r (groups_rest true 2 at s) e

-- a row that was read, if it was
abbrev pub row_read : Result Row Malformed → Option Row
row_read (Ok r) = Some r
row_read (Err e) = None

-- the row that stands at a place, if there is one: none at the plan's end
abbrev pub row_there : ℕ → List ℕ → Option Row
row_there at s = row_read (row_answer at (plan_number at (drop at s)))

none_at_end : (s : List ℕ) → row_there (length s) s ≡ None
unfolding groups
none_at_end s =
    let h : length s ≤ length s = omega arith in
    ap (λ (t : List ℕ). row_read (row_answer (length s) (plan_number (length s) t))) (drop_of_length-le s h)

pub row_none : (at : ℕ) (p : Parsed) (e : Malformed) → row_answer at p ≡ Err e → p ≡ bad e.place
row_none at (value v n rest) e h = cc
row_none at (bad place) e h = cc

-- the row that the lookup keeps after rows numbered from i + 1, where it kept d before them
pub kept_row : ℕ → ℕ → Option Row → List Row → Option Row
kept_row c i d [] = d
kept_row c i d (r ∷ l) = kept_row c (i + 1) (cond (eqb (i + 1) c) (Some r) d) l

-- what the lookup keeps while rows are read: i rows read, d kept of them, and the rest of the plan to come
abbrev pub keeping : ℕ → ℕ → Option Row → Plan → Result PlanRead PlanRefusal
keeping c i d (rows l) = Ok (record { count = i + length l; row = kept_row c i d l })
keeping c i d (refused n place) = Err (plan_refusal_of n place)

kept_past : (c i : ℕ) (d : Option Row) (l : List Row) → c ≤ i → kept_row c i d l ≡ d
unfolding kept_row
kept_past c i d [] h = refl
kept_past c i d (r ∷ l) h =
    let n : i + 1 ≡ c → ⊥ = λ e. omega arith in
    rw (ne_eqb _ _ n) (kept_past c (i + 1) d l (omega arith))

kept_at : (c i k : ℕ) (l : List Row) → c ≡ i + 1 + k → kept_row c i None l ≡ row_if (suc k) l
unfolding kept_row
kept_at c i k [] e = refl
kept_at c i zero (r ∷ l) e =
    let n : i + 1 ≡ c = omega arith in
    rw (eq-eqb _ _ n) (kept_past c (i + 1) (Some r) l (omega arith))
kept_at c i (suc k) (r ∷ l) e =
    let n : i + 1 ≡ c → ⊥ = λ q. omega arith in
    rw (ne_eqb _ _ n) (kept_at c (i + 1) k l (omega arith))

kept_first : (c : ℕ) (l : List Row) → kept_row c 0 None l ≡ row_if c l
kept_first zero l = kept_past 0 0 None l (omega arith)
kept_first (suc c) l = kept_at (suc c) 0 c l (omega arith)

keeping_none : (c : ℕ) (p : Plan) → keeping c 0 None p ≡ plan_answer c p
keeping_none c (rows l) = let e : 0 + length l ≡ length l = omega arith in rw (e, kept_first)
keeping_none c (refused n place) = refl

-- before the first row
pub keeping_start : (c : ℕ) (s : List ℕ) (p : Plan) → keeping c 0 (row_there (length s) s) p ≡ plan_answer c p
keeping_start c s p = ap (λ (r : Option Row). keeping c 0 r p) (none_at_end s) ∙ keeping_none c p

keeping_row : (c i : ℕ) (d : Option Row) (r : Row) (p : Plan) → keeping c i d (cons_row r p) ≡ keeping c (i + 1) (cond (eqb (i + 1) c) (Some r) d) p
unfolding kept_row
keeping_row c i d r (rows l) = let e : i + suc (length l) ≡ i + 1 + length l = omega arith in rw e
keeping_row c i d r (refused n place) = refl

-- a loop over n rows of s: i are read, the next starts at the place `at`, and the chute's row starts where `kept` says
module _ (c i at n kept : ℕ) (s : List ℕ) where
  abbrev d : Option Row
  d = row_there kept s

  -- a turn that reads a row
  keeping_more : (r : Row) → i < n → row_answer at (plan_number at (drop at s)) ≡ Ok r
      → keeping c i d (rows_from (n - i) at (drop at s)) ≡ keeping c (i + 1) (cond (eqb (i + 1) c) (Some r) d) (rows_from (n - (i + 1)) r.end (drop r.end s))
  keeping_more r h e =
      let f = row_found_lem at s r e in
      rw (rows_more plan_number s i n at r.destination r.end h f.0, ← f.1)
      (keeping_row c i d r (rows_from (n - (i + 1)) r.end (drop r.end s)))

  -- it is the chute's, and kept, or another's
  pub keeping_new : (r : Row) → i < n → row_answer at (plan_number at (drop at s)) ≡ Ok r → i + 1 ≡ c
      → keeping c i d (rows_from (n - i) at (drop at s)) ≡ keeping c (i + 1) (row_there at s) (rows_from (n - (i + 1)) r.end (drop r.end s))
  keeping_new r h e q =
      rw (eq-eqb _ _ q) at (keeping_more r h e)
      ∙ ap (λ (k : Option Row). keeping c (i + 1) k (rows_from (n - (i + 1)) r.end (drop r.end s))) (sym (ap row_read e))

  pub keeping_old : (r : Row) → i < n → row_answer at (plan_number at (drop at s)) ≡ Ok r → (i + 1 ≡ c → ⊥)
      → keeping c i d (rows_from (n - i) at (drop at s)) ≡ keeping c (i + 1) d (rows_from (n - (i + 1)) r.end (drop r.end s))
  keeping_old r h e q = rw (ne_eqb _ _ q) at (keeping_more r h e)

  -- a turn that finds anything but a row
  pub keeping_bad : (e : Malformed) → i < n → row_answer at (plan_number at (drop at s)) ≡ Err e
      → keeping c i d (rows_from (n - i) at (drop at s)) ≡ Err (PlanRefusal.Malformed e)
  keeping_bad e h q = ap (keeping c i d) (rows_bad plan_number s i n at e.place h (row_none at (plan_number at (drop at s)) e q))

  -- after the last row: bytes are left, or none
  pub keeping_over : n ≤ i → at < length s → keeping c i d (rows_from (n - i) at (drop at s)) ≡ Err (PlanRefusal.Malformed (record { place = at }))
  keeping_over h l = ap (keeping c i d) (rows_over plan_number s i n at h l)

  pub keeping_done : n ≤ i → length s ≤ at → keeping c i d (rows_from (n - i) at (drop at s)) ≡ Ok (record { count = i; row = d })
  unfolding kept_row
  keeping_done h l = let z : i + 0 ≡ i = omega arith in rw (rows_end plan_number s i n at h l, z)
