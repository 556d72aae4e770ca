-- Stores of entries one after another: those to come, made on what is stored so far, are the stores of all entries.
use Rattle.std.proofs.Common.{◌≡◌, sym, ap, ◌∙◌, List, [], ◌∷◌, ℕ, zero, suc, ◌+◌, ◌-◌, ◌≤◌, ◌<◌, arith, add-one, length, drop}
use Rattle.std.proofs.Math.ListN.{set, length-set}
use Rattle.std.proofs.Math.Seq.{sets}
use Rattle.hall_entry.specs.Entries.{Entry, entry, kinds_of, values_of, first, wrong}
use Rattle.hall_entry.specs.Bytes.{entry_head}
use Rattle.hall_lists.specs.Sequence.{in_sequence, StoresEntries}

pub record Filling (s : List ℕ) (start : ℕ) (kinds₀ values₀ : List ℕ) (count : ℕ) (kinds values : List ℕ) (at i : ℕ) : Type 0 where
  pub kinds_length : length kinds ≡ length kinds₀
  pub values_length : length values ≡ length values₀
  pub kinds_left : sets kinds i (kinds_of (in_sequence (count - i) at (drop at s))) ≡
      sets kinds₀ 0 (kinds_of (in_sequence (length kinds₀) start (drop start s)))
  pub values_left : sets values i (values_of (in_sequence (count - i) at (drop at s))) ≡
      sets values₀ 0 (values_of (in_sequence (length kinds₀) start (drop start s)))

module _ (s : List ℕ) (count i at : ℕ) where
  sequence_more : (k v next : ℕ) → i < count → entry_head at (drop at s) ≡ first k v next (drop next s)
      → in_sequence (count - i) at (drop at s) ≡ entry k v ∷ in_sequence (count - (i + 1)) next (drop next s)
  unfolding in_sequence
  sequence_more k v next h e = let z : count - i ≡ suc (count - (i + 1)) = omega arith in rw (z, e)

  pub sequence_stop : (place : ℕ) → i < count → entry_head at (drop at s) ≡ wrong place → in_sequence (count - i) at (drop at s) ≡ []
  unfolding in_sequence
  sequence_stop place h e = let z : count - i ≡ suc (count - (i + 1)) = omega arith in rw (z, e)

  pub sequence_end : count ≤ i → in_sequence (count - i) at (drop at s) ≡ []
  unfolding in_sequence
  sequence_end h = let z : count - i ≡ zero = omega arith in rw z

sets_next : (l : List ℕ) (i x : ℕ) (xs : List ℕ) → sets (set l i x) (i + 1) xs ≡ sets l i (x ∷ xs)
sets_next l i x xs = rw add-one

module _ {s : List ℕ} {start : ℕ} {kinds₀ values₀ : List ℕ} {count : ℕ} {kinds values : List ℕ} {at i : ℕ}
    (f : Filling s start kinds₀ values₀ count kinds values at i) where
  pub filling_more : (k v next : ℕ) → i < count → entry_head at (drop at s) ≡ first k v next (drop next s)
      → Filling s start kinds₀ values₀ count (set kinds i k) (set values i v) next (i + 1)
  filling_more k v next h e =
      let rest : List Entry = in_sequence (count - (i + 1)) next (drop next s) in
      let more : in_sequence (count - i) at (drop at s) ≡ entry k v ∷ rest = sequence_more s count i at k v next h e in
      record {
        kinds_length = length-set kinds i k ∙ f.kinds_length;
        values_length = length-set values i v ∙ f.values_length;
        kinds_left = sets_next kinds i k (kinds_of rest) ∙ sym (ap (λ (x : List Entry). sets kinds i (kinds_of x)) more) ∙ f.kinds_left;
        values_left = sets_next values i v (values_of rest) ∙ sym (ap (λ (x : List Entry). sets values i (values_of x)) more) ∙ f.values_left;
      }

  pub filling_done : in_sequence (count - i) at (drop at s) ≡ [] → StoresEntries start s kinds₀ values₀ kinds values
  filling_done e =
      record {
        kinds_stored = sym (ap (λ (x : List Entry). sets kinds i (kinds_of x)) e) ∙ f.kinds_left;
        values_stored = sym (ap (λ (x : List Entry). sets values i (values_of x)) e) ∙ f.values_left;
      }
