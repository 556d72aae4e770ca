-- From the answer of reading a plan whole to the answers of the questions on it.
use Rattle.std.proofs.Common.{◌≡◌, refl, ap, ◌∙◌, arith, ℕ, zero, suc, ◌≤◌, ◌<◌, List, length, Bool, true, false, le-leb, ltb-true, ltb-false, Result, Ok, Err}
use Rattle.std.proofs.lemmas.Bool.{lt-leb}
use Rattle.std.specs.Prelude.{ltb, ok_or}
use Rattle.std.proofs.lemmas.Option.{slice_get-get_or, slice_get_past}
use Rattle.answers.specs.declared.PlanRefusal.{PlanRefusal}
use Rattle.plan_read.specs.Plan.{Plan, rows, refused, plan_of, plan_answer, no_row}
use Rattle.plan_read.specs.Laws.Refusals.{Told, plan_told}
use Rattle.plan_read.specs.declared.Row.{Row}
use Rattle.plan_read.specs.declared.PlanRead.{PlanRead}
use Rattle.plan.specs.Answers.{summary, summary_from, summary_of, chute_row, chute_row_from, chute_row_of}

-- the number of rows, and the row of the chute
abbrev count_read : Result PlanRead PlanRefusal → Result ℕ PlanRefusal
count_read (Ok r) = Ok r.count
count_read (Err e) = Err e

abbrev row_read : Result PlanRead PlanRefusal → Result Row PlanRefusal
row_read (Ok r) = ok_or r.row PlanRefusal.NoSuchChute
row_read (Err e) = Err e

counted : (chute : ℕ) (p : Plan) → Told p → summary_from (count_read (plan_answer chute p)) ≡ summary p
counted chute (rows l) t = refl
counted chute (refused n place) t = rw (t.0, t.1)

found : (chute : ℕ) (p : Plan) → Told p → chute_row_from (row_read (plan_answer chute p)) ≡ chute_row chute p
found zero (rows l) t = refl
found (suc c) (rows l) t = go (ltb c (length l)) refl
  where
    one : 1 ≤ suc c
    one = omega arith

    go : (b : Bool) → ltb c (length l) ≡ b → chute_row_from (row_read (plan_answer (suc c) (rows l))) ≡ chute_row (suc c) (rows l)
    go true e = let h : suc c ≤ length l = omega (arith, ltb-true _ _ e) in
        rw (slice_get-get_or l c no_row (ltb-true _ _ e), le-leb 1 (suc c) one, le-leb (suc c) (length l) h)
    go false e = let h : length l < suc c = omega (arith, ltb-false _ _ e) in
        rw (slice_get_past l c (ltb-false _ _ e), le-leb 1 (suc c) one, lt-leb (suc c) (length l) h)
found chute (refused n place) t = rw (t.0, t.1)

-- by the answer of reading the plan whole
module _ (s : List ℕ) (chute : ℕ) (r : Result PlanRead PlanRefusal) (e : r ≡ plan_answer chute (plan_of s)) where
  summary_read : summary_from (count_read r) ≡ summary_of s
  unfolding summary_of
  summary_read = ap (λ (q : Result PlanRead PlanRefusal). summary_from (count_read q)) e ∙ counted chute (plan_of s) (plan_told s)

  pub summary_refused : (k : PlanRefusal) → r ≡ Err k → summary_from (Err k) ≡ summary_of s
  summary_refused k i = rw i at summary_read

  pub summary_counted : (p : PlanRead) → r ≡ Ok p → summary_from (Ok p.count) ≡ summary_of s
  summary_counted p i = rw i at summary_read

  chute_row_read : chute_row_from (row_read r) ≡ chute_row_of s chute
  unfolding chute_row_of
  chute_row_read = ap (λ (q : Result PlanRead PlanRefusal). chute_row_from (row_read q)) e ∙ found chute (plan_of s) (plan_told s)

  pub row_refused : (k : PlanRefusal) → r ≡ Err k → chute_row_from (Err k) ≡ chute_row_of s chute
  row_refused k i = rw i at chute_row_read

  pub row_found_lem : (p : PlanRead) → r ≡ Ok p → chute_row_from (ok_or p.row PlanRefusal.NoSuchChute) ≡ chute_row_of s chute
  row_found_lem p i = rw i at chute_row_read
