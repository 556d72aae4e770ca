-- From what the two calls leave to what opening answers: the tag worked out afresh is as long as any tag may be, of which those bytes are compared that the
-- caller's has, and a shorter tag is the beginning of a longer one.
use mathlib.Core.Path.{◌≡◌, refl, sym, ap, ◌∙◌}
use mathlib.Core.Bool.{Bool, true, false}
use mathlib.Core.List.{List}
use Prim.Native.Nat.{ℕ, ◌+◌, ◌≤◌}
use native.Mathlib.Omega.{arith}
use mir.Syntax.{w64}
use mir.Val.{Fits}
use lib.ListN.{length, take}
use Rattle.std.specs.Prelude.{Ok, Err}
use Rattle.answers.specs.declared.Refusal.TheVariants.{TagMismatch}
use Rattle.answers.specs.Done.{answered, outcome_from}
use Rattle.answers.specs.Laws.{answered_ok}
use Rattle.calls.specs.Limits.{max_key}
use Rattle.calls.specs.Start.{same_bytes}
use Rattle.calls.specs.Count.{runs}
use Rattle.calls.proofs.Laws.Runs.{runs_by_lengths}
use Rattle.sponge.specs.Running.{state_of, squeezed}
use Rattle.byte_strings.specs.Combined.{combined}
use Rattle.aead.specs.Limits.{authentication_key_length, least_tag, longest_tag}
use Rattle.aead.specs.Aead.{SealArguments, seal_arguments, authentication_key, tag_of, seal_runs}
use Rattle.aead.specs.Refusals.{WithinLimits, lengths_refusal, open_lengths_refusal}
use Rattle.aead.specs.Answers.{OpensInto}
use Rattle.aead.proofs.Refusals.{lengths_accepted}
use Rattle.aead.proofs.Answers.{answer, open_accepted, open_mismatch}
use Rattle.seal_calls.specs.declared.Stream.{Stream}
use Rattle.seal_calls.specs.SealCalls.{Begins, TagMade}
use Rattle.seal.specs.Kmac.{tag_call, kmac_aead}
use Rattle.seal.proofs.Lawful.{kmac_lawful}
use Rattle.seal.proofs.StreamAndTag.{Streams, Tags, streams, tags, counts_fit}
use Rattle.seal.proofs.Steps.{text_is, tag_is, runs_are}

-- the longest tag takes no more permutations than a shorter one
runs_cut : (k x l : List ℕ) (t : ℕ) → least_tag ≤ t → t ≤ longest_tag → runs (tag_call k x l longest_tag) ≡ runs (tag_call k x l t)
runs_cut k x l t low high = omega (arith, runs_by_lengths (tag_call k x l longest_tag), runs_by_lengths (tag_call k x l t))

-- a stream begun for the ciphertext, and the tag over it worked out afresh
module _ (a : SealArguments) (st : Stream) (h : Streams a.key a.iv (length a.text) st) (tag made : List ℕ) (r : ℕ)
    (g : Tags st.authentication a.text a.label made longest_tag r) (high : length tag ≤ longest_tag) where
  pub compares : (b : Bool) → b ≡ same_bytes tag (take (length tag) made) → b ≡ same_bytes tag (tag_of kmac_aead a a.text (length tag))
  unfolding tag_of
  compares b hb =
      hb
      ∙ ap (same_bytes tag)
      (ap (take (length tag)) (tag_is a st h a.text a.text made longest_tag r g refl)
      ∙ kmac_lawful.tag_cut (authentication_key kmac_aead a) a.text a.label (length tag) longest_tag high)

  pub opens : (before out : List ℕ) → 0 ≡ open_lengths_refusal kmac_aead a (length before) (length tag) → length before ≡ length a.text
      → least_tag ≤ length tag → out ≡ combined a.text (squeezed (length before) (state_of st.sponge))
      → true ≡ same_bytes tag (tag_of kmac_aead a a.text (length tag)) → OpensInto kmac_aead a before tag (answer 0 (st.runs + r)) out
  unfolding seal_runs
  opens before out e hm low ho same =
      let x : List ℕ = a.text in
      let cut = runs_cut (authentication_key kmac_aead a) x a.label (length tag) low high in
      let counted : st.runs + r ≡ seal_runs kmac_aead a x (length tag)
      = runs_are a st h x x made longest_tag r g refl
      ∙ ap (λ (k : ℕ). kmac_aead.stream_runs a.key a.iv (authentication_key_length + length x) + k) cut in
      open_accepted kmac_aead a before tag e (st.runs + r) out same counted (text_is a st h (length before) out hm ho)

-- ---- from the contracts of the parts

-- lengths that are accepted, a stream begun, and the tag worked out afresh
module _ (key iv x label before tag : List ℕ) (st : Stream) (begins : Begins key iv (length x) st) (short : length st.authentication ≤ max_key) (u : Unit {0})
    (asked : answered (lengths_refusal least_tag (length key) (length iv) (length x) (length label) (length before) (length tag)) (tt {0}) ≡ Ok u)
    (made : List ℕ) (r : ℕ) (g : TagMade st.authentication x label made longest_tag r) where
  abbrev a : SealArguments
  a = seal_arguments key iv x label

  ok : lengths_refusal least_tag (length key) (length iv) (length x) (length label) (length before) (length tag) ≡ 0
  ok = (answered_ok _ (tt {0}) u asked).0

  within : WithinLimits least_tag (length key) (length iv) (length x) (length label) (length before) (length tag)
  within = lengths_accepted _ _ _ _ _ _ _ ok

  stream_is : Streams key iv (length x) st
  stream_is = streams key iv (length x) st begins (omega (arith, within.key)) within.iv (omega (arith, within.input))

  tag_made : Tags st.authentication x label made longest_tag r
  tag_made = tags st.authentication x label made longest_tag r g short within.input (omega arith)

  compared : (b : Bool) → b ≡ same_bytes tag (take (length tag) made) → b ≡ same_bytes tag (tag_of kmac_aead a x (length tag))
  compared b e = compares a st stream_is tag made r tag_made within.long_tag b e

  pub mismatched : false ≡ same_bytes tag (take (length tag) made) → OpensInto kmac_aead a before tag (outcome_from (Err TagMismatch)) before
  mismatched e = open_mismatch kmac_aead a before tag (sym ok) (compared false e)

  -- the count of the stream, as it stands once the text is combined
  module _ (s : ℕ) (counted : s ≡ st.runs) where
    pub counts : Fits w64 (s + r)
    counts = rw counted (counts_fit st.runs r stream_is.bounded tag_made.bounded)

    pub matched : true ≡ same_bytes tag (take (length tag) made) → (out : List ℕ)
        → out ≡ combined x (squeezed (length before) (state_of st.sponge)) → OpensInto kmac_aead a before tag (outcome_from (Ok (s + r))) out
    matched e out given =
        rw counted (opens a st stream_is tag made r tag_made within.long_tag before out (sym ok) within.output within.least_tag given (compared true e))
