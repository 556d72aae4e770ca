-- The refusals by lengths: what the lengths are where there is none.
use mathlib.Core.Path.{◌≡◌, refl}
use mathlib.Core.Bool.{Bool, true, false, cond, not, ◌||◌}
use Prim.Native.Nat.{ℕ, ◌+◌, ◌≤◌}
use native.Mathlib.Omega.{arith}
use borrow.Author.Tests.{eqb-true, ltb-false, le-ltb, eq-eqb, not-false}
use lib.Dec.{eqb, ltb}
use Rattle.answers.specs.Laws.{test_passed}
use Rattle.answers.specs.Numbers.{done}
use Rattle.calls.specs.Limits.{max_customisation, max_message}
use Rattle.aead.specs.Limits.{sealing_key_length, longest_tag}
use Rattle.aead.specs.Refusals.{lengths_refusal, WithinLimits}

neither : (a b : Bool) → (a || b) ≡ false → (a ≡ false) × (b ≡ false)
neither true b e = (e, cc)
neither false b e = (refl, e)

number : (b : Bool) (k later : ℕ) → k ≤ 10 → later ≤ 10 → cond b k later ≤ 10
number true k later h g = h
number false k later h g = g

module _ (least k i x l o t : ℕ) where
  pub lengths_accepted : lengths_refusal least k i x l o t ≡ done → WithinLimits least k i x l o t
  unfolding lengths_refusal
  lengths_accepted e =
      let key = test_passed (not (eqb k sealing_key_length)) 1 _ e in
      let iv = test_passed (ltb max_customisation i) 2 _ key.1 in
      let input = test_passed (ltb max_message (x + l)) 4 _ iv.1 in
      let output = test_passed (not (eqb o x)) 5 _ input.1 in
      let tag = neither (ltb t least) (ltb longest_tag t) (test_passed (ltb t least || ltb longest_tag t) 6 0 output.1).0 in
      record {
        key = eqb-true k sealing_key_length (not-false (eqb k sealing_key_length) key.0);
        iv = ltb-false max_customisation i iv.0;
        input = ltb-false max_message (x + l) input.0;
        output = eqb-true o x (not-false (eqb o x) output.0);
        least_tag = ltb-false t least tag.0;
        long_tag = ltb-false longest_tag t tag.1;
      }

  -- each number is one of the table
  pub lengths_table : lengths_refusal least k i x l o t ≤ 10
  unfolding lengths_refusal
  lengths_table =
      number (not (eqb k sealing_key_length)) 2 _ (omega arith)
      (number (ltb max_customisation i) 3 _ (omega arith)
      (number (ltb max_message (x + l)) 5 _ (omega arith)
      (number (not (eqb o x)) 6 _ (omega arith) (number (ltb t least || ltb longest_tag t) 7 0 (omega arith) (omega arith)))))

-- lengths within the limits are accepted, also with another least tag and another tag
pub lengths_within : (least k i x l o t least' t' : ℕ) → WithinLimits least k i x l o t → least' ≤ t' → t' ≤ longest_tag
    → lengths_refusal least' k i x l o t' ≡ done
unfolding lengths_refusal
lengths_within least k i x l o t least' t' w low high =
    simp (eq-eqb _ _ w.key, le-ltb _ _ w.iv, le-ltb _ _ w.input, eq-eqb _ _ w.output, le-ltb _ _ low, le-ltb _ _ high)
