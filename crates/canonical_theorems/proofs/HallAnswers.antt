-- The answers on a hall plan tell what was read: the summary its outermost number and how many entries there are, the two lists each of them. So what holds of
-- bytes that read as halls holds by the answers.
use mathlib.Core.Path.{◌≡◌, refl, sym, ap, ◌∙◌}
use mathlib.Core.List.{List}
use mathlib.Core.Bool.{true}
use Prim.Native.Nat.{ℕ, ◌≤◌}
use native.Mathlib.Omega.{arith}
use lib.ListN.{length, length-map}
use borrow.Author.Tests.{le-ltb, eq-eqb}
use Rattle.answers.specs.Numbers.{done}
use Rattle.encode.specs.Laws.Bytes.{Bytes}
use Rattle.plan_read.specs.Limits.{max_plan}
use Rattle.hall_entry.specs.Entries.{Entry, kinds_of, values_of}
use Rattle.hall_read.specs.Halls.{HallPlan, halls, refused, halls_of}
use Rattle.hall_read.specs.Laws.Refusals.{Numbered, plan_numbered}
use Rattle.hall.specs.Answers.{hall_summary, hall_summary_of}
use Rattle.hall.specs.declared.HallSummary.{HallSummary}
use Rattle.hall_lists.specs.Lists.{lists_kinds, lists_values}
use Rattle.hall_check.specs.Lists.{lists_allowed}
use Rattle.hall_length.specs.Written.{written_halls}
use Rattle.hall_write.specs.Write.{halls_fill, hall_write_refusal, hall_written_of}
use Rattle.hall_theorems.specs.Tree.{Hall, count, listed}
use Rattle.hall_theorems.specs.HallTheorems.{summary_of_hall, IsHall}
use Rattle.hall_theorems.proofs.Lists.{pairs_back, entries_same, hall_allowed}
use Rattle.hall_theorems.proofs.HallTheorems.{hall_theorems}
use Rattle.canonical_theorems.specs.CanonicalTheorems.{SameLists, HallWritesBack}
use Rattle.canonical_theorems.proofs.Halls.{halls_written, halls_short}

-- the entries that were read are the hall's
module _ (h : Hall) (s : List ℕ) (a : IsHall h s) where
  hall_read : halls_of s ≡ halls (count h) (listed h)
  unfolding hall_summary_of lists_kinds lists_values
  hall_read = go (halls_of s) refl (plan_numbered s)
    where
      go : (p : HallPlan) → halls_of s ≡ p → Numbered p → p ≡ halls (count h) (listed h)
      go (halls outer l) e u =
          let sum : hall_summary (halls outer l) ≡ summary_of_hall h = rw e at a.summary in
          let same : outer ≡ count h = ap (λ (r : HallSummary). r.outer) sum in
          let n : length l ≡ length (listed h) = ap (λ (r : HallSummary). r.entries) sum in
          let k : length (kinds_of l) ≡ length (listed h) = length-map l (λ (x : Entry). x.kind) ∙ n in
          let v : length (values_of l) ≡ length (listed h) = length-map l (λ (x : Entry). x.value) ∙ n in
          let fit = eq-eqb (length (listed h)) (length (listed h)) refl in
          let kinds : kinds_of l ≡ kinds_of (listed h) = rw (e, n, k, fit) at (a.lists_kinds_lem (kinds_of l) k) in
          let values : values_of l ≡ values_of (listed h) = rw (e, n, v, fit) at (a.lists_values_lem (values_of l) v) in
          rw (same, entries_same l (listed h) kinds values)
      go (refused n place) e u =
          let z : n ≡ done = ap (λ (r : HallSummary). r.number) (rw e at a.summary) in
          absurd (omega arith)

pub equal_halls : (h : Hall) (s t : List ℕ) → Bytes s → Bytes t → IsHall h s → IsHall h t → s ≡ t
equal_halls h s t b c i j =
    halls_written s (count h) (listed h) b (hall_read h s i) ∙ sym (halls_written t (count h) (listed h) c (hall_read h t j))

-- its lists keep the rules, so that they can be written
lists_allowed_lem : (h : Hall) (s : List ℕ) → IsHall h s → lists_allowed (count h) (kinds_of (listed h)) (values_of (listed h)) ≡ true
lists_allowed_lem h s i =
    let z : (hall_summary_of s).number ≡ done = ap (λ (r : HallSummary). r.number) i.summary in
    let a = hall_theorems.accepted s z in
    let both : halls (count a.hall) (listed a.hall) ≡ halls (count h) (listed h) = sym (hall_read a.hall s a.is) ∙ hall_read h s i in
    let same_count : count a.hall ≡ count h = cc in
    let same_listed : listed a.hall ≡ listed h = cc in
    rw (same_count, same_listed) at (hall_allowed a.hall a.within)

module _ (h : Hall) (s out : List ℕ) (b : Bytes s) (i : IsHall h s) (n : length out ≡ length s) where
  written : s ≡ written_halls (count h) (listed h)
  written = halls_written s (count h) (listed h) b (hall_read h s i)

  short : length out ≤ max_plan
  short = omega (arith, n, halls_short s (count h) (listed h) b (hall_read h s i))

  full : halls_fill (count h) (kinds_of (listed h)) (values_of (listed h)) (length out) ≡ true
  unfolding halls_fill
  full =
      let fit : length (written_halls (count h) (listed h)) ≡ length out = omega (arith, n, ap length written) in
      rw (lists_allowed_lem h s i, pairs_back (listed h), eq-eqb _ _ fit)

  pub hall_write_back : HallWritesBack h s out
  unfolding hall_write_refusal hall_written_of
  hall_write_back =
      record {
        accepted = rw (le-ltb _ _ short, full);
        holds = rw (le-ltb _ _ short, full, pairs_back (listed h)) (sym written);
      }

-- what reading leaves in lists of the length that the summary tells
module _ (h : Hall) (s : List ℕ) (i : IsHall h s) (kinds values : List ℕ) (k : length kinds ≡ (hall_summary_of s).entries)
    (v : length values ≡ (hall_summary_of s).entries) where
  told : (hall_summary_of s).entries ≡ length (listed h)
  told = ap (λ (r : HallSummary). r.entries) i.summary

  kinds_are : lists_kinds s kinds (length values) ≡ kinds_of (listed h)
  kinds_are = rw (v, told) (i.lists_kinds_lem kinds (k ∙ told))

  values_are : lists_values s (length kinds) values ≡ values_of (listed h)
  values_are = rw (k, told) (i.lists_values_lem values (v ∙ told))

pub equal_lists : (s t kinds values : List ℕ) → Bytes s → Bytes t → SameLists s t kinds values → s ≡ t
equal_lists s t kinds values b c a =
    let x = hall_theorems.accepted s a.accepted in
    let y = hall_theorems.accepted t (rw a.summary at a.accepted) in
    let n : length kinds ≡ (hall_summary_of t).entries = rw a.summary at a.kinds_length in
    let m : length values ≡ (hall_summary_of t).entries = rw a.summary at a.values_length in
    let outer : count x.hall ≡ count y.hall = ap (λ (r : HallSummary). r.outer) (sym x.is.summary ∙ a.summary ∙ y.is.summary) in
    let same : x.hall ≡ y.hall =
    hall_theorems.one_hall x.hall y.hall outer
    (sym (kinds_are x.hall s x.is kinds values a.kinds_length a.values_length) ∙ a.lists_kinds_lem ∙ kinds_are y.hall t y.is kinds values n m)
    (sym (values_are x.hall s x.is kinds values a.kinds_length a.values_length) ∙ a.lists_values_lem
    ∙ values_are y.hall t y.is kinds values n m) in
    equal_halls y.hall s t b c (rw same at x.is) y.is
