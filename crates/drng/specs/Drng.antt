-- Seedings and draws of either generator (cSHAKE-DRNG, 1.1.3 to 1.1.5, and KMAC-DRNG, 1.2.3 to 1.2.5; docs/RULES.md, 'Generators' and 'Count').
use Rattle.std.specs.Prelude.{Bool, cond, List, ℕ, ltb, length}
use Rattle.answers.specs.Numbers.{done, wrong_state, string_too_long, bad_output_length}
use Rattle.answers.specs.Done.{if_done}
use Rattle.calls.specs.Limits.{max_additional, max_output}
use Rattle.calls.specs.Count.{runs}
use Rattle.seeding.specs.declared.Drng.{Drng}
use Rattle.seeding.specs.Seeding.{Seeding, seed_call, seed_refusal}
use Rattle.pieces.specs.Pieces.{piece_count, drawn, total_runs}
use Rattle.drng.specs.declared.Generator.{Generator}
use Rattle.drng.specs.declared.GeneratorAnswer.{GeneratorAnswer}
use Rattle.drng.specs.State.{answer_with}
use Rattle.drng.specs.Calls.{new_key, piece_call, generate}

-- the number that a draw of n bytes is answered with, by whether the state was ever seeded and the length of the additional input; the smallest that applies
unfoldable pub draw_refusal : Bool → (additional n : ℕ) → ℕ
draw_refusal seeded additional n =
    cond seeded (cond (ltb max_additional additional) string_too_long (cond (ltb max_output n) bad_output_length done)) wrong_state

abbrev pub seeding : (key seed personalisation : List ℕ) → Seeding
seeding key seed personalisation = record { key = key; seed = seed; personalisation = personalisation }

module _ (d : Drng) where
  -- the permutations of a draw of n bytes: those of its pieces' calls
  unfoldable pub draw_runs : (additional : List ℕ) → ℕ → (key : List ℕ) → ℕ
  draw_runs additional n key = total_runs (generate d additional) (λ k. runs (piece_call d additional k)) (piece_count n) key

  module _ (g : Generator) where
    -- the seeding is that of demand 3
    unfoldable pub seed_answer : (seed personalisation : List ℕ) → GeneratorAnswer
    seed_answer seed personalisation =
        let s : Seeding = seeding g.key seed personalisation in
        answer_with (seed_refusal s) (runs (seed_call d s)) (new_key d s) g

    -- what a draw of n bytes answers
    unfoldable pub draw_answer : (additional : List ℕ) → ℕ → GeneratorAnswer
    draw_answer additional n =
        answer_with (draw_refusal g.seeded (length additional) n) (draw_runs additional n g.key) (drawn (generate d additional) n g.key).key g

    -- what the lent output holds after it
    unfoldable pub draw_output : (additional before : List ℕ) → List ℕ
    draw_output additional before =
        if_done (draw_refusal g.seeded (length additional) (length before)) (drawn (generate d additional) (length before) g.key).stream before
