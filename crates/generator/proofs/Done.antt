-- From what a seeding or a draw is asked and what its calls made to what it hands back (`drng`'s laws of answers).
use Rattle.std.proofs.Common.{◌≡◌, sym, arith, List, ℕ, ◌*◌, ◌≤◌, length, Ok, Err}
use mir.Syntax.{w64}
use mir.Val.{Fits}
use Rattle.answers.specs.declared.Refusal.{Refusal}
use Rattle.answers.specs.Done.{answered}
use Rattle.answers.specs.Laws.{answered_ok}
use Rattle.calls.specs.Limits.{max_additional}
use Rattle.seeding.specs.declared.Drng.{Drng}
use Rattle.seeding.specs.Seeding.{key_bytes, seed_lengths_refusal}
use Rattle.seeding.proofs.Laws.{seed_limits}
use Rattle.pieces.specs.Pieces.{piece_count, drawn}
use Rattle.drng.specs.declared.Generator.{Generator}
use Rattle.drng.specs.State.{refused, accepted}
use Rattle.drng.specs.Calls.{generate}
use Rattle.drng.specs.Drng.{draw_refusal, seed_answer, draw_answer, draw_output}
use Rattle.drng.specs.Counts.{piece_runs}
use Rattle.drng.proofs.Answers as answers
use Rattle.drng.proofs.Counts.{draw_runs_lem, runs_small}
use Rattle.generator_calls.specs.declared.NewKey.{NewKey}
use Rattle.generator_calls.specs.GeneratorCalls.{KeyMade}
use Rattle.generator.proofs.Calls.{key_made, key_runs}

module _ (d : Drng) (g : Generator) where
  -- ---- a seeding

  pub seed_done : (x p : List ℕ) (made : NewKey) (u : Unit {0}) → answered (seed_lengths_refusal (length x) (length p)) (tt {0}) ≡ Ok u
      → KeyMade d g.key x p made
      → accepted made.runs made.key ≡ seed_answer d g x p
  seed_done x p made u asked is =
      let ok = (answered_ok (seed_lengths_refusal (length x) (length p)) (tt {0}) u asked).0 in
      let short = (seed_limits (length x) (length p) ok).0 in
      answers.seed_accepted d g x p made.runs made.key ok (key_runs d g.key x p made is short) (key_made d g.key x p made is short)

  -- ---- a draw

  module _ (a before : List ℕ) where
    abbrev n : ℕ
    n = length before

    pub draw_refused : (e : Refusal) → answered (draw_refusal g.seeded (length a) n) (tt {0}) ≡ Err e
        → (refused e g ≡ draw_answer d g a n) × (before ≡ draw_output d g a before)
    draw_refused e asked = let r = answers.draw_refused d g a before e asked in (r.answer, r.output)

    module _ (u : Unit {0}) (asked : answered (draw_refusal g.seeded (length a) n) (tt {0}) ≡ Ok u) where
      ok : draw_refusal g.seeded (length a) n ≡ 0
      ok = (answered_ok (draw_refusal g.seeded (length a) n) (tt {0}) u asked).0

      pub draw_within : length a ≤ max_additional
      draw_within = (answers.draw_limits g.seeded (length a) n ok).0

      pub counts_fit : Fits w64 (piece_runs d * piece_count n)
      counts_fit = omega (arith, runs_small d n (answers.draw_limits g.seeded (length a) n ok).1)

      pub draw_done : (key out : List ℕ) → length g.key ≡ key_bytes → key ≡ (drawn (generate d a) n g.key).key → out ≡ (drawn (generate d a) n g.key).stream
          → (accepted (piece_runs d * piece_count n) key ≡ draw_answer d g a n) × (out ≡ draw_output d g a before)
      draw_done key out size moved given =
          let counted = sym (draw_runs_lem d a g.key n draw_within size) in
          let r = answers.draw_accepted d g a before _ key out ok counted moved given in
          (r.answer, r.output)
