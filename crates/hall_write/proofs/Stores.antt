-- Laws of entries stored one after another: the stores of the entries to come, by the entry that comes next.
use Rattle.std.proofs.Common.{◌≡◌, sym, ap, ◌∙◌, List, ◌++◌, ℕ, ◌+◌, ◌≤◌, ◌<◌, arith, length, get_or, drop, Option, Some}
use Rattle.std.proofs.Math.Seq.{sets, length-sets}
use Rattle.stores.specs.Laws.{sets_append}
use Rattle.leb128_write.specs.Written.{written_number}
use Rattle.leb128_write.specs.Answers.{written_past, number_written, unless_zero}
use Rattle.leb128_write.proofs.Laws.{past_some, is_written}
use Rattle.hall_check.specs.Lists.{pairs}
use Rattle.hall_check.specs.Laws.Pairs.{drop_pairs}
use Rattle.hall_check.specs.Laws.Taken.{EntriesFit}
use Rattle.hall_length.specs.Written.{written_entries}
use Rattle.hall_length.specs.Laws.{next_fit, next_length}

-- of what is stored so far, up to a place, and the entries from an index on: their stores make those of all entries
pub record Putting (kinds values out₀ : List ℕ) (first : ℕ) (out : List ℕ) (at i : ℕ) : Type 0 where
  pub left : EntriesFit (drop i (pairs kinds values))
  pub room : at + length (written_entries (drop i (pairs kinds values))) ≤ length out
  pub same : length out ≡ length out₀
  pub stores : sets out at (written_entries (drop i (pairs kinds values))) ≡ sets out₀ first (written_entries (pairs kinds values))

module _ (kinds values : List ℕ) (i : ℕ) (equal : length kinds ≡ length values) (h : i < length kinds) where
  abbrev Kind : List ℕ
  Kind = written_number (get_or kinds i 0)

  abbrev Value : List ℕ
  Value = written_number (get_or values i 0)

  next_sets : (out : List ℕ) (at : ℕ)
      → sets out at (written_entries (drop i (pairs kinds values))) ≡ sets (sets (sets out at Kind) (at + length Kind) Value) (at + length Kind + length Value)
      (written_entries (drop (i + 1) (pairs kinds values)))
  unfolding written_entries
  next_sets out at =
      rw (drop_pairs kinds values i equal h)
      (sets_append out at Kind (Value ++ written_entries (drop (i + 1) (pairs kinds values)))
      ∙ sets_append (sets out at Kind) (at + length Kind) Value (written_entries (drop (i + 1) (pairs kinds values))))

  -- an entry more, by the writers of its two numbers
  module _ {out₀ : List ℕ} {first : ℕ} {out : List ℕ} {at : ℕ} (p : Putting kinds values out₀ first out at i) where
    -- the kind, which is made wide before it is written
    module _ (w : ℕ) (e : w ≡ get_or kinds i 0) (r : Option ℕ) (one : List ℕ)
        (a : (r ≡ unless_zero (written_past at w (length out))) × (one ≡ number_written at w out)) where
      kind_room : at + length Kind ≤ length out
      kind_room = omega (arith, p.room, next_length kinds values i equal h)

      pub kind_past : r ≡ Some (at + length Kind)
      kind_past = a.0 ∙ rw e (past_some at (get_or kinds i 0) (next_fit kinds values i equal h p.left).0 out kind_room)

      pub kind_stored : one ≡ sets out at Kind
      kind_stored = a.1 ∙ rw e (is_written at (get_or kinds i 0) (next_fit kinds values i equal h p.left).0 out kind_room)

      -- and the value past it
      module _ (mid : ℕ) (m : r ≡ Some mid) (t : Option ℕ) (two : List ℕ)
          (b : (t ≡ unless_zero (written_past mid (get_or values i 0) (length one))) × (two ≡ number_written mid (get_or values i 0) one)) where
        mid_is : mid ≡ at + length Kind
        mid_is = let k = kind_past in cc

        one_length : length one ≡ length out
        one_length = ap length kind_stored ∙ length-sets out at Kind

        value_room : mid + length Value ≤ length one
        value_room = omega (arith, p.room, next_length kinds values i equal h, mid_is, one_length)

        pub value_past : t ≡ Some (mid + length Value)
        value_past = b.0 ∙ past_some mid (get_or values i 0) (next_fit kinds values i equal h p.left).1.0 one value_room

        value_stored : two ≡ sets one mid Value
        value_stored = b.1 ∙ is_written mid (get_or values i 0) (next_fit kinds values i equal h p.left).1.0 one value_room

        pub putting_more : (next : ℕ) → t ≡ Some next → Putting kinds values out₀ first two next (i + 1)
        putting_more next n =
            let v = value_past in
            let e2 : next ≡ mid + length Value = cc in
            let l2 : length two ≡ length one = ap length value_stored ∙ length-sets one mid Value in
            record {
              left = (next_fit kinds values i equal h p.left).1.1;
              room = omega (arith, p.room, next_length kinds values i equal h, mid_is, one_length, e2, l2);
              same = l2 ∙ one_length ∙ p.same;
              stores = rw (e2, value_stored, mid_is, kind_stored) (sym (next_sets out at) ∙ p.stores);
            }
