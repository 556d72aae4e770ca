-- What sealing and opening are refused for (docs/RULES.md, 'Numbers').
use Rattle.std.specs.Prelude.{◌≡◌, cond, not, ◌||◌, List, ℕ, ◌+◌, ◌≤◌, eqb, ltb, length}
use Rattle.answers.specs.Numbers.{done, bad_key_length, string_too_long, input_too_long, bad_output_length, bad_tag_length, tag_mismatch}
use Rattle.answers.specs.Done.{first_number}
use Rattle.calls.specs.Limits.{max_customisation, max_message}
use Rattle.calls.specs.Start.{same_bytes}
use Rattle.aead.specs.Limits.{sealing_key_length, longest_tag}
use Rattle.aead.specs.Aead.{SealArguments, Construction, tag_of}

-- by the lengths of key, IV, text, label, output and tag, where a tag has `least` bytes or more; the smallest that applies
unfoldable pub lengths_refusal : (least key iv text label out tag : ℕ) → ℕ
lengths_refusal least key iv text label out tag =
    cond (not (eqb key sealing_key_length)) bad_key_length
    (cond (ltb max_customisation iv) string_too_long
    (cond (ltb max_message (text + label)) input_too_long
    (cond (not (eqb out text)) bad_output_length
    (cond (ltb tag least || ltb longest_tag tag) bad_tag_length done))))

-- lengths k, i, x, l, o and t of the same that are not refused (`SealsWithinLimits` of RoundTrip.antt)
pub record WithinLimits (least k i x l o t : ℕ) : Type 0 where
  pub key : k ≡ sealing_key_length
  pub iv : i ≤ max_customisation
  pub input : x + l ≤ max_message
  pub output : o ≡ x
  pub least_tag : least ≤ t
  pub long_tag : t ≤ longest_tag

-- for an output of n bytes and a tag of t
abbrev pub refusal_by : (least : ℕ) → SealArguments → (n t : ℕ) → ℕ
refusal_by least a n t = lengths_refusal least (length a.key) (length a.iv) (length a.text) (length a.label) n t

module _ (c : Construction) (a : SealArguments) where
  abbrev pub seal_refusal : (n t : ℕ) → ℕ
  seal_refusal n t = refusal_by c.least_sealed a n t

  abbrev pub open_lengths_refusal : (n t : ℕ) → ℕ
  open_lengths_refusal n t = refusal_by c.least_opened a n t

  -- and then a tag that is not the one worked out afresh, over its whole length
  unfoldable pub open_refusal : ℕ → (tag : List ℕ) → ℕ
  open_refusal n tag =
      first_number (open_lengths_refusal n (length tag)) (cond (same_bytes tag (tag_of c a a.text (length tag))) done tag_mismatch)
