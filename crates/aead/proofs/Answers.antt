-- From the tests on the way and what the parts left to what sealing and opening answer, over any construction.
use mathlib.Core.Path.{◌≡◌, refl, ap, ◌∙◌}
use mathlib.Core.Bool.{Bool, true, false, cond}
use mathlib.Core.List.{List}
use Prim.Native.Nat.{ℕ, zero, suc, ◌<◌}
use native.Mathlib.Omega.{arith}
use lib.ListN.{length}
use Rattle.std.specs.Prelude.{Result, Err}
use Rattle.answers.specs.declared.Outcome.{Outcome}
use Rattle.answers.specs.declared.Refusal.{Refusal}
use Rattle.answers.specs.Numbers.{done, tag_mismatch, number_of}
use Rattle.answers.specs.Done.{if_done, first_number, outcome_of, outcome_from, answered}
use Rattle.answers.specs.Laws.{refused_number}
use Rattle.calls.specs.Start.{same_bytes}
use Rattle.aead.specs.Aead.{SealArguments, Construction, combined_text, tag_of, seal_runs}
use Rattle.aead.specs.Refusals.{seal_refusal, open_lengths_refusal, open_refusal}
use Rattle.aead.specs.Answers.{sealed, sealed_text, sealed_tag, Seals, opened, opened_text, OpensInto}
use Rattle.aead.proofs.Refusals.{lengths_table}

-- number and runs
abbrev pub answer : ℕ → ℕ → Outcome
answer k r = record { number = k; runs = r }

module _ (c : Construction) (a : SealArguments) (before tag : List ℕ) where
  -- ---- sealing

  abbrev seal_number : ℕ
  seal_number = seal_refusal c a (length before) (length tag)

  refuses : (k : ℕ) → k ≡ seal_number → 0 < k → Seals c a before tag (answer k 0) before tag
  unfolding sealed sealed_text sealed_tag
  refuses zero e some = absurd (omega arith)
  refuses (suc k) e some =
      record {
        answer = ap (λ (n : ℕ). outcome_of n (seal_runs c a (combined_text c a) (length tag))) e;
        text = ap (λ (n : ℕ). if_done n (combined_text c a) before) e;
        tag = ap (λ (n : ℕ). if_done n (tag_of c a (combined_text c a) (length tag)) tag) e;
      }

  pub seal_refused : (e : Refusal) (r : Result ℕ Refusal) → answered seal_number (tt {0}) ≡ Err e → r ≡ Err e
      → Seals c a before tag (outcome_from r) before tag
  seal_refused e r asked is =
      let n = refused_number seal_number (tt {0}) e (lengths_table _ _ _ _ _ _ _) asked in
      rw is (refuses (number_of e) n.0 (omega (arith, n.0, n.1)))

  pub seal_accepted : (r : ℕ) (out made : List ℕ) → 0 ≡ seal_number
      → r ≡ seal_runs c a (combined_text c a) (length tag) → out ≡ combined_text c a → made ≡ tag_of c a (combined_text c a) (length tag)
      → Seals c a before tag (answer 0 r) out made
  unfolding sealed sealed_text sealed_tag
  seal_accepted r out made e counted text is =
      record {
        answer = ap (answer 0) counted ∙ ap (λ (n : ℕ). outcome_of n (seal_runs c a (combined_text c a) (length tag))) e;
        text = text ∙ ap (λ (n : ℕ). if_done n (combined_text c a) before) e;
        tag = is ∙ ap (λ (n : ℕ). if_done n (tag_of c a (combined_text c a) (length tag)) tag) e;
      }

  -- ---- opening

  abbrev expected : List ℕ
  expected = tag_of c a a.text (length tag)

  open_answered : (k r : ℕ) (out : List ℕ) → k ≡ open_refusal c a (length before) tag → r ≡ if_done k (seal_runs c a a.text (length tag)) 0
      → out ≡ if_done k (combined_text c a) before → OpensInto c a before tag (answer k r) out
  unfolding opened opened_text
  open_answered k r out e counted is =
      record {
        answer = ap (answer k) counted ∙ ap (λ (n : ℕ). outcome_of n (seal_runs c a a.text (length tag))) e;
        text = is ∙ ap (λ (n : ℕ). if_done n (combined_text c a) before) e;
      }

  abbrev open_number : ℕ
  open_number = open_lengths_refusal c a (length before) (length tag)

  open_refuses : (k : ℕ) → k ≡ open_number → 0 < k → OpensInto c a before tag (answer k 0) before
  unfolding open_refusal
  open_refuses zero e some = absurd (omega arith)
  open_refuses (suc k) e some =
      open_answered (suc k) 0 before (ap (λ (n : ℕ). first_number n (cond (same_bytes tag expected) done tag_mismatch)) e) refl refl

  pub open_refused : (e : Refusal) (r : Result ℕ Refusal) → answered open_number (tt {0}) ≡ Err e → r ≡ Err e → OpensInto c a before tag (outcome_from r) before
  open_refused e r asked is =
      let n = refused_number open_number (tt {0}) e (lengths_table _ _ _ _ _ _ _) asked in
      rw is (open_refuses (number_of e) n.0 (omega (arith, n.0, n.1)))

  module _ (e : 0 ≡ open_lengths_refusal c a (length before) (length tag)) where
    compared : (b : Bool) → b ≡ same_bytes tag expected → cond b done tag_mismatch ≡ open_refusal c a (length before) tag
    unfolding open_refusal
    compared b h =
        ap (λ (t : Bool). cond t done tag_mismatch) h ∙ ap (λ (n : ℕ). first_number n (cond (same_bytes tag expected) done tag_mismatch)) e

    pub open_mismatch : false ≡ same_bytes tag expected → OpensInto c a before tag (answer tag_mismatch 0) before
    open_mismatch h = open_answered tag_mismatch 0 before (compared false h) refl refl

    pub open_accepted : (r : ℕ) (out : List ℕ) → true ≡ same_bytes tag expected → r ≡ seal_runs c a a.text (length tag)
        → out ≡ combined_text c a → OpensInto c a before tag (answer 0 r) out
    open_accepted r out h counted is = open_answered 0 r out (compared true h) counted is
