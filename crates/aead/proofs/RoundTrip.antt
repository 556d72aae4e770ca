-- Opening undoes sealing: combining twice with one stream gives the text back, whatever the stream (`Combining`), and the tag is the one worked out
-- afresh because ciphertext and text are of one length. A cut of a tag opens because a shorter tag is the beginning of a longer one.
use mathlib.Core.Path.{◌≡◌, refl, sym, ap, ◌∙◌}
use mathlib.Core.Bool.{Bool, true, false, cond}
use mathlib.Core.List.{List}
use Prim.Native.Nat.{ℕ, ◌+◌, ◌≤◌}
use native.Mathlib.Omega.{arith}
use lib.ListN.{length, take, drop, length-drop}
use lib.Seq.{length-take-le}
use Rattle.answers.specs.Laws.{first_number-passed}
use Rattle.answers.specs.Numbers.{done, tag_mismatch}
use Rattle.answers.specs.Done.{if_done, first_number}
use Rattle.calls.specs.Start.{same_bytes}
use Rattle.calls.specs.Laws.Refusal.{same_bytes-equal, same_bytes-self}
use Rattle.byte_strings.specs.Combined.{combined}
use Rattle.byte_strings.proofs.Combining.{length_combined, combined_twice}
use Rattle.aead.specs.Limits.{authentication_key_length, longest_tag}
use Rattle.aead.specs.Aead.{SealArguments, Construction, Lawful, authentication_key, text_stream, combined_text, tag_of, seal_runs}
use Rattle.aead.specs.Refusals.{lengths_refusal, seal_refusal, open_lengths_refusal, open_refusal}
use Rattle.aead.specs.Answers.{sealed, sealed_text, sealed_tag, opened, opened_text}
use Rattle.aead.specs.RoundTrip.{SealsWithinLimits, with_text, AcceptsExactly, OpensWhatWasSealed, CutTagsOpen}
use Rattle.aead.proofs.Refusals.{lengths_accepted, lengths_within}

-- ---- sealing is done exactly within the limits

pub seals_within_limits : (c : Construction) → SealsWithinLimits c
unfolding sealed
seals_within_limits c a n t =
    let k : ℕ = length a.key in
    let i : ℕ = length a.iv in
    let x : ℕ = length a.text in
    let l : ℕ = length a.label in
    (lengths_accepted c.least_sealed k i x l n t, λ w. lengths_within c.least_sealed k i x l n t c.least_sealed t w w.least_tag w.long_tag)

-- ---- opening is done exactly for the tag that is worked out afresh

passed : (b : Bool) → cond b done tag_mismatch ≡ 0 → b ≡ true
passed true e = refl
passed false e = absurd (omega arith)

differ : (a b : List ℕ) → (a ≡ b → ⊥) → same_bytes a b ≡ false
differ a b h = go (same_bytes a b) refl
  where
    go : (t : Bool) → same_bytes a b ≡ t → t ≡ false
    go true e = absurd (h (same_bytes-equal a b e))
    go false e = refl

module _ (c : Construction) (a : SealArguments) (n : ℕ) (tag : List ℕ) where
  abbrev expected : List ℕ
  expected = tag_of c a a.text (length tag)

  module _ (e : open_lengths_refusal c a n (length tag) ≡ 0) where
    past_lengths : open_refusal c a n tag ≡ cond (same_bytes tag expected) done tag_mismatch
    unfolding open_refusal
    past_lengths = ap (λ (k : ℕ). first_number k (cond (same_bytes tag expected) done tag_mismatch)) e

    accepted : tag ≡ expected → open_refusal c a n tag ≡ 0
    accepted is =
        past_lengths
        ∙ ap (λ (l : List ℕ). cond (same_bytes tag l) done tag_mismatch) (sym is)
        ∙ ap (λ (b : Bool). cond b done tag_mismatch) (same_bytes-self tag)

    mismatched : (tag ≡ expected → ⊥) → open_refusal c a n tag ≡ tag_mismatch
    mismatched other = past_lengths ∙ ap (λ (b : Bool). cond b done tag_mismatch) (differ tag expected other)

  fresh : open_refusal c a n tag ≡ 0 → (open_lengths_refusal c a n (length tag) ≡ 0) × (tag ≡ expected)
  unfolding open_refusal
  fresh e =
      let r = first_number-passed (open_lengths_refusal c a n (length tag)) _ e in
      (r.0, same_bytes-equal tag expected (passed (same_bytes tag expected) r.1))

pub accepts_exactly : (c : Construction) → AcceptsExactly c
unfolding opened opened_text
accepts_exactly c a before tag e =
    let n : ℕ = length before in
    record {
      exactly = ((λ h. (fresh c a n tag h).1), accepted c a n tag e);
      mismatch = λ other.
          let k : open_refusal c a n tag ≡ tag_mismatch = mismatched c a n tag e other in
          (k, ap (λ (j : ℕ). if_done j (combined_text c a) before) k);
    }

-- ---- opening undoes sealing

module _ (c : Construction) (h : Lawful c) (a : SealArguments) where
  abbrev ciphertext : List ℕ
  ciphertext = combined_text c a

  abbrev sealed_arguments : SealArguments
  sealed_arguments = with_text a ciphertext

  -- the authentication key, for a text of k bytes
  abbrev key_for : ℕ → List ℕ
  key_for k = take authentication_key_length (c.key_stream a.key a.iv (authentication_key_length + k))

  length_stream : length (text_stream c a) ≡ length a.text
  unfolding text_stream
  length_stream =
      let all : ℕ = authentication_key_length + length a.text in
      length-drop authentication_key_length (c.key_stream a.key a.iv all) ∙ omega (arith, h.stream_length a.key a.iv all)

  same_length : length ciphertext ≡ length a.text
  unfolding combined_text
  same_length = length_combined a.text (text_stream c a) ∙ length_stream

  text_back : combined_text c sealed_arguments ≡ a.text
  unfolding combined_text text_stream
  text_back =
      ap (λ (k : ℕ). combined ciphertext (drop authentication_key_length (c.key_stream a.key a.iv (authentication_key_length + k)))) same_length
      ∙ combined_twice a.text (text_stream c a) (sym length_stream)

  -- the tag over the ciphertext, made for the text and made for the ciphertext
  module _ (t : ℕ) where
    tag_length_lem : length (tag_of c a ciphertext t) ≡ t
    unfolding tag_of
    tag_length_lem = h.tag_length (authentication_key c a) ciphertext a.label t

    same_tag : tag_of c a ciphertext t ≡ tag_of c sealed_arguments ciphertext (length (tag_of c a ciphertext t))
    unfolding tag_of authentication_key
    same_tag =
        ap (λ (k : ℕ). c.tag (key_for k) ciphertext a.label t) (sym same_length)
        ∙ ap (tag_of c sealed_arguments ciphertext) (sym tag_length_lem)

    same_runs : seal_runs c sealed_arguments ciphertext (length (tag_of c a ciphertext t)) ≡ seal_runs c a ciphertext t
    unfolding seal_runs authentication_key
    same_runs =
        ap (seal_runs c sealed_arguments ciphertext) tag_length_lem
        ∙ ap (λ (k : ℕ). c.stream_runs a.key a.iv (authentication_key_length + k) + c.tag_runs (key_for k) ciphertext a.label t) same_length

    pub opens_again : (n m : ℕ) → seal_refusal c a n t ≡ 0 → m ≡ n → open_refusal c sealed_arguments m (tag_of c a ciphertext t) ≡ 0
    opens_again n m e same =
        let w = lengths_accepted c.least_sealed (length a.key) (length a.iv) (length a.text) (length a.label) n t e in
        let low : c.least_opened ≤ t = omega (arith, h.least_tags, w.least_tag) in
        let lengths : open_lengths_refusal c sealed_arguments m (length (tag_of c a ciphertext t)) ≡ 0
        = (λ i. lengths_refusal c.least_opened (length a.key) (length a.iv) (same_length i) (length a.label) (same i) (tag_length_lem i))
        ∙ lengths_within c.least_sealed (length a.key) (length a.iv) (length a.text) (length a.label) n t c.least_opened t w low
        w.long_tag in
        accepted c sealed_arguments m (tag_of c a ciphertext t) lengths same_tag

pub opens_what_was_sealed : (c : Construction) → Lawful c → OpensWhatWasSealed c
unfolding sealed opened opened_text sealed_text sealed_tag
opens_what_was_sealed c h a out tag back e same =
    let t : ℕ = length tag in
    let x : List ℕ = combined_text c a in
    let y : List ℕ = tag_of c a x t in
    let ok : open_refusal c (with_text a x) (length back) y ≡ 0 = opens_again c h a t (length out) (length back) e same in
    record {
      number = rw e ok;
      runs = rw e (ap (λ (k : ℕ). if_done k (seal_runs c (with_text a x) x (length y)) 0) ok ∙ same_runs c h a t);
      text = rw e (ap (λ (k : ℕ). if_done k (combined_text c (with_text a x)) back) ok ∙ text_back c h a);
    }

-- ---- cuts

pub cut_tags_open : (c : Construction) → Lawful c → CutTagsOpen c
unfolding opened opened_text tag_of
cut_tags_open c h a before tag m e low high =
    let n : ℕ = length before in
    let o = fresh c a n tag e in
    let w = lengths_accepted c.least_opened (length a.key) (length a.iv) (length a.text) (length a.label) n (length tag) o.0 in
    let k : length (take m tag) ≡ m = length-take-le m tag high in
    let cut : take m tag ≡ tag_of c a a.text m = ap (take m) o.1 ∙ h.tag_cut (authentication_key c a) a.text a.label m (length tag) high in
    let short : m ≤ longest_tag = omega (arith, w.long_tag) in
    let lengths : open_lengths_refusal c a n m ≡ 0
    = lengths_within c.least_opened (length a.key) (length a.iv) (length a.text) (length a.label) n (length tag) c.least_opened m w low
    short in
    let ok : open_refusal c a n (take m tag) ≡ 0
    = accepted c a n (take m tag) (ap (open_lengths_refusal c a n) k ∙ lengths) (cut ∙ ap (tag_of c a a.text) (sym k)) in
    (ok, ap (λ (j : ℕ). if_done j (combined_text c a) before) (ok ∙ sym e))
