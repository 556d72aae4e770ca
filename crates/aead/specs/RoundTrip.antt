-- What is asked of sealing and opening, over what they answer and leave in the lent memory. proofs/RoundTrip.antt proves it of every lawful construction.
use Rattle.std.specs.Prelude.{◌≡◌, ◌↔◌, List, ℕ, ◌≤◌, length, take}
use Rattle.answers.specs.Numbers.{done, tag_mismatch}
use Rattle.aead.specs.Aead.{SealArguments, seal_arguments, Construction, tag_of}
use Rattle.aead.specs.Refusals.{WithinLimits, open_lengths_refusal}
use Rattle.aead.specs.Answers.{sealed, sealed_text, sealed_tag, opened, opened_text}

-- the same key, IV and label with another text
abbrev pub with_text : SealArguments → List ℕ → SealArguments
with_text a text = seal_arguments a.key a.iv text a.label

module _ (c : Construction) where
  -- sealing is done exactly if the lengths keep the limits
  abbrev pub SealsWithinLimits : Type 0
  SealsWithinLimits =
      (a : SealArguments) (n t : ℕ)
      → ((sealed c a n t).number ≡ done) ↔ WithinLimits c.least_sealed (length a.key) (length a.iv) (length a.text) (length a.label) n t

  -- once the length checks are passed, opening is done exactly if the tag equals the one worked out afresh; any other is a mismatch, and nothing is written
  pub record Accepts (a : SealArguments) (before tag : List ℕ) : Type 0 where
    pub exactly : ((opened c a (length before) tag).number ≡ done) ↔ (tag ≡ tag_of c a a.text (length tag))
    pub mismatch : (tag ≡ tag_of c a a.text (length tag) → ⊥)
        → ((opened c a (length before) tag).number ≡ tag_mismatch) × (opened_text c a before tag ≡ before)

  abbrev pub AcceptsExactly : Type 0
  AcceptsExactly =
      (a : SealArguments) (before tag : List ℕ) → open_lengths_refusal c a (length before) (length tag) ≡ done → Accepts a before tag

  -- what an accepted sealing into `out` and `tag` left there, opened into `back`: done, in as many permutations, and the text is back
  pub record Opens (a : SealArguments) (out tag back : List ℕ) : Type 0 where
    pub number : (opened c (with_text a (sealed_text c a out (length tag))) (length back) (sealed_tag c a (length out) tag)).number ≡ done
    pub runs : (opened c (with_text a (sealed_text c a out (length tag))) (length back) (sealed_tag c a (length out) tag)).runs
        ≡ (sealed c a (length out) (length tag)).runs
    pub text : opened_text c (with_text a (sealed_text c a out (length tag))) back (sealed_tag c a (length out) tag) ≡ a.text

  abbrev pub OpensWhatWasSealed : Type 0
  OpensWhatWasSealed =
      (a : SealArguments) (out tag back : List ℕ) → (sealed c a (length out) (length tag)).number ≡ done → length back ≡ length out
      → Opens a out tag back

  -- a cut of a tag that opens, not shorter than opening allows, opens too, and gives the same text
  abbrev pub CutTagsOpen : Type 0
  CutTagsOpen =
      (a : SealArguments) (before tag : List ℕ) (m : ℕ) → (opened c a (length before) tag).number ≡ done → c.least_opened ≤ m → m ≤ length tag
      → ((opened c a (length before) (take m tag)).number ≡ done) × (opened_text c a before (take m tag) ≡ opened_text c a before tag)
