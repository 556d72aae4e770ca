-- From the tests on the way and the bytes at the end to what a seeding and a draw answer, of either generator.
use mathlib.Core.Path.{◌≡◌, refl, sym, ap, ◌∙◌}
use Rattle.std.specs.Prelude.{Err}
use mathlib.Core.Bool.{Bool, true, false}
use mathlib.Core.List.{List}
use Prim.Native.Nat.{ℕ, zero, suc, ◌≤◌}
use native.Mathlib.Omega.{arith}
use borrow.Author.Tests.{ltb-false}
use lib.Dec.{ltb}
use lib.ListN.{length}
use Rattle.answers.specs.Laws.{test_passed}
use Rattle.answers.specs.declared.Refusal.{Refusal}
use Rattle.answers.specs.Done.{if_done, answered}
use Rattle.calls.specs.Limits.{max_additional, max_output}
use Rattle.calls.specs.Count.{runs}
use Rattle.seeding.specs.declared.Drng.{Drng}
use Rattle.seeding.specs.Seeding.{Seeding, seed_call, seed_refusal}
use Rattle.pieces.specs.Pieces.{Generated, drawn}
use Rattle.drng.specs.declared.Generator.{Generator}
use Rattle.drng.specs.declared.GeneratorAnswer.{GeneratorAnswer}
use Rattle.drng.specs.State.{refused, accepted, answer_with}
use Rattle.drng.specs.Calls.{new_key, generate}
use Rattle.drng.specs.Drng.{draw_refusal, seeding, draw_runs, seed_answer, draw_answer, draw_output}

-- what is refused: the state as it was, and nothing written
refused_with : (k n : ℕ) (key : List ℕ) (before : Generator) (e : Refusal) → answered k (tt {0}) ≡ Err e → refused e before ≡ answer_with k n key before
refused_with zero n key before e h = absurd cc
refused_with (suc k) n key before e h = cc

unwritten : (k : ℕ) (answer before : List ℕ) (e : Refusal) → answered k (tt {0}) ≡ Err e → before ≡ if_done k answer before
unwritten zero answer before e h = absurd cc
unwritten (suc k) answer before e h = refl

module _ (d : Drng) (g : Generator) where
  -- ---- seedings

  module _ (x p : List ℕ) where
    abbrev s : Seeding
    s = seeding g.key x p

    pub seed_refused : (e : Refusal) → answered (seed_refusal s) (tt {0}) ≡ Err e → refused e g ≡ seed_answer d g x p
    unfolding seed_answer
    seed_refused = refused_with (seed_refusal s) (runs (seed_call d s)) (new_key d s) g

    pub seed_accepted : (r : ℕ) (key : List ℕ) → seed_refusal s ≡ 0 → r ≡ runs (seed_call d s) → key ≡ new_key d s → accepted r key ≡ seed_answer d g x p
    unfolding seed_answer
    seed_accepted r key ok counted given =
        (λ i. accepted (counted i) (given i)) ∙ sym (ap (λ (j : ℕ). answer_with j (runs (seed_call d s)) (new_key d s) g) ok)

  -- ---- draws

  module _ (a before : List ℕ) where
    abbrev number : ℕ
    number = draw_refusal g.seeded (length a) (length before)

    abbrev all : Generated
    all = drawn (generate d a) (length before) g.key

    -- what a draw answers, and what it leaves in the lent output
    pub record Draws (r : GeneratorAnswer) (out : List ℕ) : Type 0 where
      pub answer : r ≡ draw_answer d g a (length before)
      pub output : out ≡ draw_output d g a before

    pub draw_refused : (e : Refusal) → answered number (tt {0}) ≡ Err e → Draws (refused e g) before
    unfolding draw_answer draw_output
    draw_refused e h =
        record {
          answer = refused_with number (draw_runs d a (length before) g.key) all.key g e h;
          output = unwritten number all.stream before e h;
        }

    pub draw_accepted : (r : ℕ) (key out : List ℕ) → number ≡ 0 → r ≡ draw_runs d a (length before) g.key → key ≡ all.key → out ≡ all.stream
        → Draws (accepted r key) out
    unfolding draw_answer draw_output
    draw_accepted r key out ok counted moved given =
        record {
          answer = (λ i. accepted (counted i) (moved i)) ∙ sym (ap (λ (j : ℕ). answer_with j (draw_runs d a (length before) g.key) all.key g) ok);
          output = given ∙ sym (ap (λ (j : ℕ). if_done j all.stream before) ok);
        }

-- an accepted draw keeps the limits
pub draw_limits : (t : Bool) (a n : ℕ) → draw_refusal t a n ≡ 0 → (a ≤ max_additional) × (n ≤ max_output)
unfolding draw_refusal
draw_limits true a n ok =
    let x = test_passed (ltb max_additional a) 2 _ ok in
    let y = test_passed (ltb max_output n) 5 _ x.1 in
    (ltb-false max_additional a x.0, ltb-false max_output n y.0)
draw_limits false a n ok = absurd (omega arith)
