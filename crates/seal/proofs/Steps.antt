-- From what the two calls leave to what sealing answers: stream, ciphertext, tag and count are the definition's, step by step.
use mathlib.Core.Path.{◌≡◌, sym, ap, ap₂, ◌∙◌}
use mathlib.Core.List.{List}
use Prim.Native.Nat.{ℕ, ◌+◌, ◌≤◌}
use native.Mathlib.Omega.{arith}
use mir.Syntax.{w64}
use mir.Val.{Fits}
use lib.ListN.{length}
use Rattle.std.specs.Prelude.{Ok}
use Rattle.answers.specs.Done.{answered, outcome_from}
use Rattle.answers.specs.Laws.{answered_ok}
use Rattle.calls.specs.Limits.{max_key}
use Rattle.sponge.specs.Running.{state_of, squeezed}
use Rattle.byte_strings.specs.Combined.{combined}
use Rattle.aead.specs.Limits.{least_tag}
use Rattle.aead.specs.Aead.{SealArguments, seal_arguments, authentication_key, text_stream, combined_text, tag_of, seal_runs}
use Rattle.aead.specs.Refusals.{WithinLimits, lengths_refusal}
use Rattle.aead.specs.Answers.{Seals}
use Rattle.aead.proofs.Refusals.{lengths_accepted}
use Rattle.aead.proofs.Answers.{seal_accepted}
use Rattle.seal_calls.specs.declared.Stream.{Stream}
use Rattle.seal_calls.specs.SealCalls.{Begins, TagMade}
use Rattle.seal.specs.Kmac.{kmac_aead}
use Rattle.seal.proofs.StreamAndTag.{Streams, Tags, streams, tags, counts_fit}

-- a stream begun for the text
module _ (a : SealArguments) (st : Stream) (h : Streams a.key a.iv (length a.text) st) where
  -- the text combined with the rest of it
  pub text_is : (m : ℕ) (out : List ℕ) → m ≡ length a.text → out ≡ combined a.text (squeezed m (state_of st.sponge))
      → out ≡ combined_text kmac_aead a
  unfolding combined_text text_stream
  text_is m out hm ho =
      ho ∙ ap (combined a.text) (ap (λ (k : ℕ). squeezed k (state_of st.sponge)) hm ∙ h.text)

  -- a tag over the ciphertext x, which is y
  module _ (x y made : List ℕ) (t r : ℕ) (g : Tags st.authentication x a.label made t r) (e : x ≡ y) where
    pub tag_is : made ≡ tag_of kmac_aead a y t
    unfolding tag_of authentication_key
    tag_is = g.is ∙ ap₂ (λ (k z : List ℕ). kmac_aead.tag k z a.label t) h.authentication e

    pub runs_are : st.runs + r ≡ seal_runs kmac_aead a y t
    unfolding seal_runs authentication_key
    runs_are =
        ap₂ (λ (i j : ℕ). i + j) h.runs (g.runs ∙ ap₂ (λ (k z : List ℕ). kmac_aead.tag_runs k z a.label t) h.authentication e)

-- ---- sealing

-- lengths that are accepted, and a stream begun
module _ (key iv x label before held : List ℕ) (st : Stream) (begins : Begins key iv (length x) st) (short : length st.authentication ≤ max_key) (u : Unit {0})
    (asked : answered (lengths_refusal least_tag (length key) (length iv) (length x) (length label) (length before) (length held)) (tt {0}) ≡ Ok u) where
  ok : lengths_refusal least_tag (length key) (length iv) (length x) (length label) (length before) (length held) ≡ 0
  ok = (answered_ok _ (tt {0}) u asked).0

  within : WithinLimits least_tag (length key) (length iv) (length x) (length label) (length before) (length held)
  within = lengths_accepted _ _ _ _ _ _ _ ok

  stream_is : Streams key iv (length x) st
  stream_is = streams key iv (length x) st begins (omega (arith, within.key)) within.iv (omega (arith, within.input))

  -- the tag over the ciphertext `out`, and the count of the stream, as they stand once the text is combined
  module _ (authentication out made : List ℕ) (s r : ℕ) (same : authentication ≡ st.authentication) (counted : s ≡ st.runs)
      (g : TagMade authentication out label made (length held) r) (size : length out ≡ length before) where
    tag_made : Tags st.authentication out label made (length held) r
    tag_made =
        let k : length authentication ≤ max_key = omega (arith, ap length same) in
        rw (← same) (tags authentication out label made (length held) r g k (omega (arith, within.input, within.output)) within.long_tag)

    pub counts : Fits w64 (s + r)
    counts = rw counted (counts_fit st.runs r stream_is.bounded tag_made.bounded)

    pub seals : out ≡ combined x (squeezed (length before) (state_of st.sponge))
        → Seals kmac_aead (seal_arguments key iv x label) before held (outcome_from (Ok (s + r))) out made
    seals given =
        let a : SealArguments = seal_arguments key iv x label in
        let is = text_is a st stream_is (length before) out within.output given in
        let all : s + r ≡ seal_runs kmac_aead a (combined_text kmac_aead a) (length held)
        = ap (λ (n : ℕ). n + r) counted ∙ runs_are a st stream_is out (combined_text kmac_aead a) made (length held) r tag_made is in
        seal_accepted kmac_aead a before held (s + r) out made (sym ok) all is
        (tag_is a st stream_is out (combined_text kmac_aead a) made (length held) r tag_made is)
