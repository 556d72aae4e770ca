-- From the answers of reading the plan whole and of the row reader to a walk's start and to an ask's answer.
use mathlib.Core.Path.{◌≡◌, refl, sym, ap, ◌∙◌}
use mathlib.Core.List.{List}
use Prim.Native.Nat.{ℕ, zero, suc}
use native.Mathlib.Omega.{arith}
use lib.ListN.{drop}
use Rattle.answers.specs.Numbers.{done, no_such_chute}
use Rattle.answers.specs.Done.{if_done}
use Rattle.plan_read.specs.Plan.{plan_number, row_answer}
use Rattle.answers.specs.Places.{plan_refusal_number, plan_refusal_place}
use Rattle.answers.specs.Breaches.{no_place}
use Rattle.plan.specs.Answers.{summary_from, summary_of}
use Rattle.std.specs.Prelude.{Result, Ok, Err}
use Rattle.answers.specs.declared.Malformed.{Malformed}
use Rattle.answers.specs.declared.PlanRefusal.{PlanRefusal}
use Rattle.plan_read.specs.declared.Row.{Row}
use Rattle.plan.specs.declared.PlanSummary.{PlanSummary}
use Rattle.plan_walk.specs.Walk.{first_row_at, walk_start, stay, asked, walk_step}
use Rattle.plan_walk.specs.declared.Cursor.{Cursor}

-- the new value where the number is 0, and else the old one
pub done_new : {A : Type 0} (n : ℕ) (new old : A) → n ≡ done → if_done n new old ≡ new
done_new zero new old e = refl
done_new (suc n) new old e = let z : ◌≡◌ {A = ℕ} 0 1 = cc in absurd (omega arith)

pub refused_old : {A : Type 0} (n : ℕ) (new old : A) → (n ≡ done → ⊥) → if_done n new old ≡ old
refused_old zero new old h = absurd (h refl)
refused_old (suc n) new old h = refl

-- the start, by the summary of the plan
abbrev start_for : List ℕ → PlanSummary → Cursor
start_for s k = record { at = if_done k.number (first_row_at s) 0; number = k.number; place = k.place }

module _ (s : List ℕ) (r : Result ℕ PlanRefusal) (k : summary_from r ≡ summary_of s) where
  pub start_refused : (e : PlanRefusal) → r ≡ Err e
      → ◌≡◌ {A = Cursor} (record { at = 0; number = plan_refusal_number e; place = plan_refusal_place e }) (walk_start s)
  unfolding walk_start
  start_refused e h = at_none e ∙ ap (start_for s) (rw h at k)
    where
      at_none : (e : PlanRefusal)
          → ◌≡◌ {A = Cursor} (record { at = 0; number = plan_refusal_number e; place = plan_refusal_place e }) (start_for s (summary_from (Err e)))
      at_none PlanRefusal.TooLong = refl
      at_none (PlanRefusal.Malformed m) = refl
      at_none PlanRefusal.NoSuchChute = refl

  pub start_done : (count n : ℕ) → r ≡ Ok count → n ≡ first_row_at s → ◌≡◌ {A = Cursor} (record { at = n; number = done; place = no_place }) (walk_start s)
  unfolding walk_start
  start_done count n h q = rw q (ap (start_for s) (rw h at k))

pub start_number : (s : List ℕ) → (walk_start s).number ≡ (summary_of s).number
unfolding walk_start
start_number s = refl

pub start_place_lem : (s : List ℕ) → (walk_start s).place ≡ (summary_of s).place
unfolding walk_start
start_place_lem s = refl

-- an ask
module _ (s : List ℕ) (c : Cursor) where
  -- what the row reader finds where the walk stands
  abbrev found : Result Row Malformed
  found = row_answer c.at (plan_number c.at (drop c.at s))

  pub step_refused : (c.number ≡ done → ⊥) → stay c.number c.place c ≡ walk_step s c
  unfolding walk_step
  step_refused h = sym (refused_old c.number (asked c found) (stay c.number c.place c) h)

  step_from : (r : Result Row Malformed) → c.number ≡ done → r ≡ found → asked c r ≡ walk_step s c
  unfolding walk_step
  step_from r z e = ap (asked c) e ∙ sym (done_new c.number (asked c found) (stay c.number c.place c) z)

  pub step_row : (r : Result Row Malformed) (row : Row) → c.number ≡ done → r ≡ found → r ≡ Ok row → asked c (Ok row) ≡ walk_step s c
  step_row r row z e i = rw i at (step_from r z e)

  pub step_none : (r : Result Row Malformed) (bad : Malformed) → c.number ≡ done → r ≡ found → r ≡ Err bad → stay no_such_chute no_place c ≡ walk_step s c
  step_none r bad z e i = rw i at (step_from r z e)

  -- an ask that hands out nothing stays where it is
  pub step_stays : ((walk_step s c).number ≡ done → ⊥) → (walk_step s c).next ≡ c
  unfolding walk_step
  step_stays = go c.number found
    where
      go : (n : ℕ) (r : Result Row Malformed) → let a = if_done n (asked c r) (stay c.number c.place c) in (a.number ≡ done → ⊥) → a.next ≡ c
      go zero (Ok row) h = absurd (h refl)
      go zero (Err e) h = refl
      go (suc n) r h = refl

  -- and the number and the place are the cursor's
  pub step_number : (walk_step s c).next.number ≡ c.number
  unfolding walk_step
  step_number = go c.number refl found
    where
      go : (n : ℕ) → c.number ≡ n → (r : Result Row Malformed) → (if_done n (asked c r) (stay c.number c.place c)).next.number ≡ c.number
      go zero e (Ok row) = sym e
      go zero e (Err bad) = refl
      go (suc n) e r = refl

  pub step_place : (walk_step s c).next.place ≡ c.place
  unfolding walk_step
  step_place = go c.number found
    where
      go : (n : ℕ) (r : Result Row Malformed) → (if_done n (asked c r) (stay c.number c.place c)).next.place ≡ c.place
      go zero (Ok row) = refl
      go zero (Err e) = refl
      go (suc n) r = refl
