-- What sealing and opening answer, and what the lent output and tag then hold: `Seals` and `OpensInto` are the contracts of the entries.
use Rattle.std.specs.Prelude.{◌≡◌, List, ℕ, length}
use Rattle.answers.specs.declared.Outcome.{Outcome}
use Rattle.answers.specs.Done.{if_done, outcome_of}
use Rattle.aead.specs.Aead.{SealArguments, Construction, combined_text, tag_of, seal_runs}
use Rattle.aead.specs.Refusals.{seal_refusal, open_refusal}

module _ (c : Construction) (a : SealArguments) where
  -- sealing into an output of n bytes and a tag of t
  unfoldable pub sealed : (n t : ℕ) → Outcome
  sealed n t = outcome_of (seal_refusal c a n t) (seal_runs c a (combined_text c a) t)

  unfoldable pub sealed_text : (before : List ℕ) → (t : ℕ) → List ℕ
  sealed_text before t = if_done (seal_refusal c a (length before) t) (combined_text c a) before

  unfoldable pub sealed_tag : ℕ → (before : List ℕ) → List ℕ
  sealed_tag n before = if_done (seal_refusal c a n (length before)) (tag_of c a (combined_text c a) (length before)) before

  -- opening into an output of n bytes, with a tag
  unfoldable pub opened : ℕ → (tag : List ℕ) → Outcome
  opened n tag = outcome_of (open_refusal c a n tag) (seal_runs c a a.text (length tag))

  unfoldable pub opened_text : (before tag : List ℕ) → List ℕ
  opened_text before tag = if_done (open_refusal c a (length before) tag) (combined_text c a) before

  -- sealing where the lent output and tag held `before` and `held`: the answer, and what was written and made there
  pub record Seals (before held : List ℕ) (r : Outcome) (written made : List ℕ) : Type 0 where
    pub answer : r ≡ sealed (length before) (length held)
    pub text : written ≡ sealed_text before (length held)
    pub tag : made ≡ sealed_tag (length before) held

  -- opening with a tag where the lent output held `before`
  pub record OpensInto (before tag : List ℕ) (r : Outcome) (written : List ℕ) : Type 0 where
    pub answer : r ≡ opened (length before) tag
    pub text : written ≡ opened_text before tag
