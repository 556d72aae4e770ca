-- Laws of reading into lists: which case of the definitions holds, from the summary and the lists' lengths.
use Rattle.std.proofs.Common.{◌≡◌, refl, sym, ap, ◌∙◌, List, false, ℕ, ◌≤◌, arith, length, drop, Ok, Err}
use Rattle.std.proofs.lemmas.List.{length-map}
use borrow.Author.Tests.{eq-eqb, ne_eqb}
use Rattle.answers.specs.Numbers.{done, malformed_plan}
use Rattle.answers.specs.Breaches.{no_place}
use Rattle.answers.specs.Places.{plan_refusal_number}
use Rattle.answers.specs.declared.PlanRefusal.{PlanRefusal}
use Rattle.stores.specs.Laws.{sets_all}
use Rattle.plan_read.specs.Plan.{plan_number}
use Rattle.hall_entry.specs.Entries.{Entry, kinds_of, values_of}
use Rattle.hall_read.specs.Halls.{HallPlan, halls, refused, halls_of}
use Rattle.hall_read.specs.Laws.Refusals.{Numbered, plan_numbered}
use Rattle.hall.specs.Answers.{refused_summary, hall_summary, hall_summary_of, summary_from}
use Rattle.hall.specs.declared.HallCounts.{HallCounts}
use Rattle.hall.specs.declared.HallSummary.{HallSummary}
use Rattle.hall_lists.specs.Lists.{lists_fit, lists_answer, lists_summary, kinds_held, values_held, lists_kinds, lists_values, FillsLists}
use Rattle.hall_lists.specs.Sequence.{entries_start, in_sequence, ListsRoom, StoresEntries}
use Rattle.hall_lists.specs.Laws.Sequence.{SequencePlan, sequence_plan}

-- an accepted hall plan, from its summary
record AcceptedPlan (s : List ℕ) (r : HallSummary) : Type 0 where
  pub outer : ℕ
  pub l : List Entry
  pub is : halls_of s ≡ halls outer l
  pub answer : r ≡ hall_summary (halls outer l)
  pub entries : r.entries ≡ length l
  pub inside : entries_start (plan_number 0 s) ≤ length s
  pub read : in_sequence (length l) (entries_start (plan_number 0 s)) (drop (entries_start (plan_number 0 s)) s) ≡ l

module _ (s kinds values : List ℕ) (r : HallSummary) (e : r ≡ hall_summary_of s) where
  into_refused : (r.number ≡ done → ⊥) → FillsLists s kinds values kinds values r
  unfolding hall_summary_of lists_summary lists_kinds lists_values
  into_refused n = let w = go (halls_of s) e in record { answer = w.0; kinds_held_lem = w.1.0; values_held_lem = w.1.1 }
    where
      go : (p : HallPlan) → r ≡ hall_summary p
          → (r ≡ lists_answer (length kinds) (length values) p)
          × ((kinds ≡ kinds_held (length values) p kinds) × (values ≡ values_held (length kinds) p values))
      go (halls outer l) q = absurd (n (ap (λ (x : HallSummary). x.number) q))
      go (refused m place) q = (q, (refl, refl))

  into_accepted : r.number ≡ done → AcceptedPlan s r
  unfolding hall_summary_of
  into_accepted z = go (halls_of s) refl (plan_numbered s) (sequence_plan s) e
    where
      go : (p : HallPlan) → halls_of s ≡ p → Numbered p → SequencePlan s p → r ≡ hall_summary p → AcceptedPlan s r
      go (halls outer l) q n f a =
          record { outer = outer; l = l; is = q; answer = a; entries = ap (λ (x : HallSummary). x.entries) a; inside = f.0; read = f.1 }
      go (refused m place) q n f a = absurd (omega (arith, ap (λ (x : HallSummary). x.number) a))

  module _ (w : AcceptedPlan s r) where
    into_other : lists_fit (length w.l) (length kinds) (length values) ≡ false
        → FillsLists s kinds values kinds values (refused_summary malformed_plan no_place)
    unfolding lists_summary lists_kinds lists_values
    into_other f = record { answer = rw (w.is, f); kinds_held_lem = rw (w.is, f); values_held_lem = rw (w.is, f) }

    into_kinds : (length kinds ≡ r.entries → ⊥) → FillsLists s kinds values kinds values (refused_summary malformed_plan no_place)
    into_kinds n = into_other (let d : length kinds ≡ length w.l → ⊥ = λ q. n (q ∙ sym w.entries) in rw (ne_eqb _ _ d))

    into_values : length kinds ≡ r.entries → (length values ≡ r.entries → ⊥)
        → FillsLists s kinds values kinds values (refused_summary malformed_plan no_place)
    into_values m n =
        into_other
        (let d : length values ≡ length w.l → ⊥ = λ q. n (q ∙ sym w.entries) in
        let k : length kinds ≡ length w.l = m ∙ w.entries in
        rw (eq-eqb _ _ k, ne_eqb _ _ d))

    into_filled : (k v : List ℕ) (start : ℕ) → length kinds ≡ r.entries → length values ≡ r.entries → start ≡ entries_start (plan_number 0 s)
        → StoresEntries start s kinds values k v → FillsLists s kinds values k v r
    unfolding lists_summary lists_kinds lists_values
    into_filled k v start m n b t =
        let lk : length kinds ≡ length w.l = m ∙ w.entries in
        let lv : length values ≡ length w.l = n ∙ w.entries in
        let nk : length (kinds_of w.l) ≡ length kinds = length-map w.l (λ (x : Entry). x.kind) ∙ sym lk in
        let nv : length (values_of w.l) ≡ length values = length-map w.l (λ (x : Entry). x.value) ∙ sym lv in
        let fk : k ≡ kinds_of w.l = (rw (b, lk, w.read) at t.kinds_stored) ∙ sets_all kinds (kinds_of w.l) nk in
        let fv : v ≡ values_of w.l = (rw (b, lk, w.read) at t.values_stored) ∙ sets_all values (values_of w.l) nv in
        record {
          answer = rw (w.is, eq-eqb _ _ lk, eq-eqb _ _ lv) w.answer;
          kinds_held_lem = rw (w.is, eq-eqb _ _ lk, eq-eqb _ _ lv) fk;
          values_held_lem = rw (w.is, eq-eqb _ _ lk, eq-eqb _ _ lv) fv;
        }

-- a refusal has a number
some_number : (r : PlanRefusal) → plan_refusal_number r ≡ done → ⊥
some_number PlanRefusal.TooLong e = omega arith
some_number (PlanRefusal.Malformed m) e = omega arith
some_number PlanRefusal.NoSuchChute e = omega arith

-- from what was answered of the plan
module _ (s kinds values : List ℕ) where
  pub read_refused : (r : PlanRefusal) → summary_from (Err r) ≡ hall_summary_of s → FillsLists s kinds values kinds values (summary_from (Err r))
  read_refused r e = into_refused s kinds values (summary_from (Err r)) e (some_number r)

  module _ (h : HallCounts) (e : summary_from (Ok h) ≡ hall_summary_of s) where
    accepted : AcceptedPlan s (summary_from (Ok h))
    accepted = into_accepted s kinds values (summary_from (Ok h)) e refl

    pub other_kinds : (length kinds ≡ h.entries → ⊥) → FillsLists s kinds values kinds values (refused_summary malformed_plan no_place)
    other_kinds n = into_kinds s kinds values (summary_from (Ok h)) e accepted n

    module _ (m : length kinds ≡ h.entries) where
      pub other_values : (length values ≡ h.entries → ⊥) → FillsLists s kinds values kinds values (refused_summary malformed_plan no_place)
      other_values n = into_values s kinds values (summary_from (Ok h)) e accepted m n

      module _ (n : length values ≡ h.entries) (start : ℕ) (b : start ≡ entries_start (plan_number 0 s)) where
        pub room : ListsRoom start s kinds values
        room = record { inside = omega (arith, accepted.inside); equal = n ∙ sym m }

        pub filled : (k v : List ℕ) → StoresEntries start s kinds values k v → FillsLists s kinds values k v (summary_from (Ok h))
        filled k v t = into_filled s kinds values (summary_from (Ok h)) e accepted k v start m n b t
