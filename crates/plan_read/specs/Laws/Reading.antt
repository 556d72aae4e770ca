-- Laws of a plan read, whatever reads a number: the rows to come by the number that stands next, and the plan by its length and its first number.
use Rattle.std.specs.Prelude.{◌≡◌, refl, List, [], Bool, true, false, cond, length, drop, leb, Result, Ok, Err}
use Prim.Native.Nat.{ℕ, zero, suc, ◌+◌, ◌-◌, ◌≤◌, ◌<◌}
use native.Mathlib.Omega.{arith}
use Rattle.std.proofs.Math.ListN.{drop_of_length-le}
use Rattle.std.proofs.Math.Seq.{drop-cons}
use Rattle.std.proofs.Common.{lt-ltb, le-ltb}
use Rattle.answers.specs.Numbers.{input_too_long}
use Rattle.leb128.specs.Number.{Parsed, value, bad}
use Rattle.leb128.specs.Answers.{number_answer}
use Rattle.leb128.specs.Laws.Reading.{Rest}
use Rattle.leb128.specs.declared.Number.{Number}
use Rattle.answers.specs.declared.Malformed.{Malformed}
use Rattle.plan_read.specs.Limits.{max_plan, max_rows}
use Rattle.plan_read.specs.Plan.{Plan, rows, refused, malformed, row, cons_row, after_number, rows_by, plan_by}

module _ (number_at : ℕ → List ℕ → Parsed) (s : List ℕ) where
  -- of n rows of s, i are read, and the next starts at the place `at`
  module _ (i n at : ℕ) where
    abbrev to_come : Plan
    to_come = rows_by number_at (n - i) at (drop at s)

    pub rows_more : (v next : ℕ) → i < n → number_at at (drop at s) ≡ value v next (drop next s)
        → to_come ≡ cons_row (row v at next) (rows_by number_at (n - (i + 1)) next (drop next s))
    unfolding rows_by
    rows_more v next h e = let k : n - i ≡ suc (n - (i + 1)) = omega arith in rw (k, e)

    pub rows_bad : (place : ℕ) → i < n → number_at at (drop at s) ≡ bad place → to_come ≡ malformed place
    unfolding rows_by
    rows_bad place h e = let k : n - i ≡ suc (n - (i + 1)) = omega arith in rw (k, e)

    -- after the last row: bytes are left, or none
    pub rows_over : n ≤ i → at < length s → to_come ≡ malformed at
    unfolding rows_by
    rows_over h l = let k : n - i ≡ zero = omega arith in rw (k, drop-cons s at 0 l)

    pub rows_end : n ≤ i → length s ≤ at → to_come ≡ rows []
    unfolding rows_by
    rows_end h l = let k : n - i ≡ zero = omega arith in rw (k, drop_of_length-le s l)

  -- what is answered for a plan read whole
  module _ {A : Type 0} (answer : Plan → A) where
    pub whole_long : max_plan < length s → answer (plan_by number_at s) ≡ answer (refused input_too_long 0)
    unfolding plan_by
    whole_long h = rw (lt-ltb _ _ h)

    -- by its first number
    abbrev pub rows_after : Result Number Malformed → A
    rows_after (Ok n) = cond (leb n.value max_rows) (answer (rows_by number_at n.value n.next (drop n.next s))) (answer (malformed 0))
    rows_after (Err e) = answer (malformed e.place)

    rows_cond : (t : Bool) (p : Plan) → cond t (answer p) (answer (malformed 0)) ≡ answer (cond t p (malformed 0))
    rows_cond true p = refl
    rows_cond false p = refl

    after_number_lem : (p : Parsed) → Rest 0 s p
        → rows_after (number_answer p) ≡ answer
        (after_number p (λ count next rest. cond (leb count max_rows) (rows_by number_at count next rest) (malformed 0)))
    after_number_lem (value v next rest) u = rw (← u.1) (rows_cond (leb v max_rows) (rows_by number_at v next rest))
    after_number_lem (bad place) u = refl

    pub whole_after : Rest 0 s (number_at 0 s) → length s ≤ max_plan → rows_after (number_answer (number_at 0 s)) ≡ answer (plan_by number_at s)
    unfolding plan_by
    whole_after r h = rw (le-ltb _ _ h) (after_number_lem (number_at 0 s) r)
