-- Reading what was written gives the entries of the two lists, which the bytes read as; and a buffer of the length that was asked for is accepted.
use mathlib.Core.Path.{◌≡◌, refl}
use mathlib.Core.List.{List}
use mathlib.Core.Bool.{Bool, true, false, cond, ◌&&◌}
use Prim.Native.Nat.{ℕ, ◌≤◌}
use native.Mathlib.Omega.{arith}
use lib.ListN.{length}
use lib.Dec.{ltb, eqb}
use borrow.Author.Tests.{ltb-false, eqb-true}
use Rattle.answers.specs.Numbers.{done, input_too_long, malformed_plan}
use Rattle.plan_read.specs.Limits.{max_plan}
use Rattle.hall_entry.specs.Entries.{Entry, kinds_of, values_of}
use Rattle.hall_read.specs.Halls.{HallPlan, halls, halls_of}
use Rattle.hall_check.specs.Lists.{pairs, lists_allowed}
use Rattle.hall_check.specs.Laws.Pairs.{pairs_kinds, pairs_values}
use Rattle.hall_check.specs.Laws.Taken.{lists_known}
use Rattle.hall_length.specs.Length.{hall_length_of}
use Rattle.hall_write.specs.Write.{halls_fill, hall_write_refusal, hall_written_of}
use Rattle.hall_write.specs.Laws.{halls_back}
use Rattle.hall_write.proofs.Answers.{Text, asked, filled}

-- a hall plan's halls are those of an outermost number and two lists
pub record SameHalls (outer : ℕ) (kinds values : List ℕ) (p : HallPlan) : Type 0 where
  pub entries : List Entry
  pub is : p ≡ halls outer entries
  pub same_kinds : kinds_of entries ≡ kinds
  pub same_values : values_of entries ≡ values

module _ (outer : ℕ) (kinds values : List ℕ) where
  same_halls : lists_allowed outer kinds values ≡ true → length (Text outer kinds values) ≤ max_plan
      → SameHalls outer kinds values (halls_of (Text outer kinds values))
  same_halls ok short =
      let a = lists_known outer kinds values ok in
      record {
        entries = pairs kinds values;
        is = halls_back outer (pairs kinds values) a.outer_fits a.all_read short;
        same_kinds = pairs_kinds kinds values a.equal;
        same_values = pairs_values kinds values a.equal;
      }

  pub written_reads : (out : List ℕ) → hall_write_refusal outer kinds values (length out) ≡ done
      → SameHalls outer kinds values (halls_of (hall_written_of outer kinds values out))
  unfolding hall_write_refusal hall_written_of halls_fill
  written_reads out e =
      go (ltb max_plan (length out)) (lists_allowed outer kinds values) (eqb (length (Text outer kinds values)) (length out)) refl refl refl e
    where
      go : (t a f : Bool) → ltb max_plan (length out) ≡ t → lists_allowed outer kinds values ≡ a → eqb (length (Text outer kinds values)) (length out) ≡ f
          → cond t input_too_long (cond (a && f) done malformed_plan) ≡ done
          → SameHalls outer kinds values (halls_of (cond t out (cond (a && f) (Text outer kinds values) out)))
      go false true true et ea ef q =
          let fit : length (Text outer kinds values) ≡ length out = eqb-true _ _ ef in
          let short : length out ≤ max_plan = ltb-false _ _ et in
          same_halls ea (omega arith)
      go true a f et ea ef q = absurd (omega arith)
      go false true false et ea ef q = absurd (omega arith)
      go false false f et ea ef q = absurd (omega arith)

  pub asked_accepted : (hall_length_of outer kinds values).number ≡ done
      → hall_write_refusal outer kinds values (hall_length_of outer kinds values).length ≡ done
  asked_accepted z = filled outer kinds values (hall_length_of outer kinds values).length (asked outer kinds values (hall_length_of outer kinds values) refl z)
