-- Reading what was written gives the rows: the plan's bytes read as the rows, whose lookups are the list's.
use mathlib.Core.Path.{◌≡◌, refl, sym, ap, ◌∙◌}
use mathlib.Core.List.{List, [], ◌∷◌}
use mathlib.Core.Bool.{Bool, true, false, cond, ◌&&◌}
use Prim.Native.Nat.{ℕ, ◌≤◌}
use native.Mathlib.Omega.{arith}
use lib.ListN.{length, length-map}
use lib.Dec.{leb, eqb}
use borrow.Author.Tests.{leb-true, le-leb, eq-eqb}
use Rattle.answers.specs.Numbers.{done, malformed_plan}
use Rattle.leb128_write.specs.Written.{written_number}
use Rattle.plan_read.specs.Limits.{max_rows, max_destination}
use Rattle.plan_read.specs.Plan.{rows, plan_of, row_destinations}
use Rattle.plan.specs.Answers.{lookup_in}
use Rattle.plan.specs.Laws.{lookup_rows, count_rows}
use Rattle.plan_read.specs.declared.Row.{Row}
use Rattle.plan_length.specs.Length.{written_plan, rows_allowed, allowed, length_is, no_length, length_of}
use Rattle.plan_length.specs.Laws.{and_left, and_right}
use Rattle.plan_length.specs.declared.PlanLength.{PlanLength}
use Rattle.plan_write.specs.Write.{fills, write_refusal, written_of}
use Rattle.plan_write.specs.RoundTrip.{ReadsAs, EachFits, RoundTrip}
use Rattle.plan_write.specs.WriteLaws.{placed, placed_destinations, plan_back}

-- rows that keep the rules: their plan answers as they do
module _ (l : List ℕ) (ok : allowed l ≡ true) where
  abbrev d : List Row
  d = placed (length (written_number (length l))) l

  plan_rows : plan_of (written_plan l) ≡ rows d
  unfolding allowed
  plan_rows =
      plan_back l (leb-true _ _ (and_left (leb (length l) max_rows) (rows_allowed l) ok)) (and_right (leb (length l) max_rows) (rows_allowed l) ok)

  same : row_destinations d ≡ l
  same = placed_destinations (length (written_number (length l))) l

  same_length : length d ≡ length l
  same_length = sym (length-map d (λ (r : Row). r.destination)) ∙ ap length same

  reads_as : ReadsAs l (written_plan l)
  reads_as =
      record {
        count = count_rows (written_plan l) d plan_rows ∙ rw same_length;
        every_chute = λ chute. lookup_rows (written_plan l) d plan_rows chute ∙ ap (λ (m : List ℕ). lookup_in m chute) same;
      }

written_reads : (l out : List ℕ) → write_refusal l (length out) ≡ done → ReadsAs l (written_of l out)
unfolding write_refusal written_of fills
written_reads l out e = go (allowed l) (eqb (length (written_plan l)) (length out)) refl e
  where
    go : (a b : Bool) → allowed l ≡ a → cond (a && b) done malformed_plan ≡ done → ReadsAs l (cond (a && b) (written_plan l) out)
    go true true ok q = reads_as l ok
    go true false ok q = absurd (omega arith)
    go false b ok q = absurd (omega arith)

accepted : (l : List ℕ) → (length_of l).number ≡ done → write_refusal l (length_of l).length ≡ done
unfolding length_of write_refusal fills
accepted l = go (allowed l)
  where
    go : (a : Bool) → (cond {A = PlanLength} a (length_is (length (written_plan l))) no_length).number ≡ done
        → cond (a && eqb (length (written_plan l)) (cond {A = PlanLength} a (length_is (length (written_plan l))) no_length).length) done malformed_plan ≡ done
    go true e = rw (eq-eqb (length (written_plan l)) (length (written_plan l)) refl)
    go false e = absurd (omega arith)

rows_allowed_lem : (l : List ℕ) → EachFits l → rows_allowed l ≡ true
unfolding rows_allowed
rows_allowed_lem [] h = refl
rows_allowed_lem (v ∷ l) h = rw (le-leb v max_destination h.0) (rows_allowed_lem l h.1)

accepts : (l : List ℕ) → length l ≤ max_rows → EachFits l → (length_of l).number ≡ done
unfolding length_of allowed
accepts l within h = rw (le-leb (length l) max_rows within, rows_allowed_lem l h)

pub round_trip : RoundTrip
round_trip = record { accepts = accepts; reads_back = written_reads; length_accepted = accepted }
