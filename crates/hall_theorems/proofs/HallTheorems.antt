-- The theorems on hall plans.
use mathlib.Core.Path.{◌≡◌, refl, sym, ap, ◌∙◌}
use mathlib.Core.List.{List, [], ◌∷◌, ◌++◌}
use mathlib.Core.Bool.{Bool, true, false, cond}
use Prim.Native.Nat.{ℕ, ◌≤◌}
use native.Mathlib.Omega.{arith}
use lib.ListN.{length}
use lib.Dec.{ltb, eqb}
use borrow.Author.Tests.{eq-eqb}
use Rattle.answers.specs.Numbers.{done, input_too_long}
use Rattle.leb128.specs.Number.{Parsed, value, bad, max_number}
use Rattle.plan_read.specs.Limits.{max_plan}
use Rattle.plan_read.specs.Plan.{plan_number}
use Rattle.plan.specs.Answers.{lookup_of, lookup_in}
use Rattle.plan_length.specs.Length.{length_of}
use Rattle.plan_write.specs.Write.{write_refusal, written_of}
use Rattle.plan_write.specs.RoundTrip.{EachFits}
use Rattle.plan_write.proofs.RoundTrip.{round_trip}
use Rattle.hall_entry.specs.Limits.{levels_below}
use Rattle.hall_entry.specs.Entries.{Entry, kinds_of, values_of, Read, reached, breach, entries_of}
use Rattle.hall_entry.specs.Bytes.{byte_head}
use Rattle.hall_entry.specs.Laws.Induction.{AllGood}
use Rattle.hall_entry.specs.Laws.Bytes.{NumberAfter, number_inside}
use Rattle.hall_read.specs.Halls.{HallPlan, halls, refused, nothing_after, with_outer, halls_of}
use Rattle.hall_read.specs.Laws.Refusals.{Numbered, plan_numbered}
use Rattle.hall.specs.Answers.{hall_summary, hall_summary_of, hall_lookup_of}
use Rattle.hall_lists.specs.Lists.{lists_summary, lists_kinds, lists_values}
use Rattle.hall_length.specs.Written.{written_halls}
use Rattle.hall_length.specs.Length.{length_within, hall_length_of}
use Rattle.hall_write.specs.Write.{hall_write_refusal, hall_written_of}
use Rattle.hall_write.proofs.RoundTrip.{written_reads, asked_accepted}
use Rattle.hall_theorems.specs.Tree.{Hall, none, chute, inner, count, listed, destinations_of, NumbersFit, HallLimits}
use Rattle.hall_theorems.specs.HallTheorems.{summary_of_hall, IsHall, AcceptedHall, Written, HallTheorems}
use Rattle.hall_theorems.proofs.Trees.{Good, TreeOf, trees, listed_chutes}
use Rattle.hall_theorems.proofs.Lists.{pairs_back, hall_allowed}
use Rattle.hall_theorems.proofs.OneHall.{one_hall}
use Rattle.hall_theorems.proofs.NotBoth.{not_both}

-- a hall plan that reads as a hall
module _ (h : Hall) (s : List ℕ) (e : halls_of s ≡ halls (count h) (listed h)) where
  answered : hall_summary_of s ≡ summary_of_hall h
  unfolding hall_summary_of
  answered = rw (e, listed_chutes h)

  looked_up : (c : ℕ) → hall_lookup_of s c ≡ lookup_in (destinations_of h) c
  unfolding hall_lookup_of
  looked_up c = rw (e, listed_chutes h)

  same : eqb (length (listed h)) (length (listed h)) ≡ true
  same = eq-eqb (length (listed h)) (length (listed h)) refl

  lists_answered : lists_summary s (length (listed h)) (length (listed h)) ≡ summary_of_hall h
  unfolding lists_summary
  lists_answered = rw (e, same, listed_chutes h)

  kinds_read : (kinds : List ℕ) → length kinds ≡ length (listed h) → lists_kinds s kinds (length (listed h)) ≡ kinds_of (listed h)
  unfolding lists_kinds
  kinds_read kinds n = rw (e, n, same)

  values_read : (values : List ℕ) → length values ≡ length (listed h) → lists_values s (length (listed h)) values ≡ values_of (listed h)
  unfolding lists_values
  values_read values n = rw (e, n, same)

  pub is_hall : IsHall h s
  is_hall =
      record { summary = answered; every_chute = looked_up; lists_answer_lem = lists_answered; lists_kinds_lem = kinds_read; lists_values_lem = values_read }

-- the hall that an accepted plan is
abbrev TreePlan : HallPlan → Type 0
TreePlan (halls outer l) = (outer ≤ max_number) × TreeOf levels_below outer 0 l
TreePlan (refused n place) = Unit

tree_plan : (s : List ℕ) → TreePlan (halls_of s)
unfolding halls_of
tree_plan s = go (ltb max_plan (length s))
  where
    of_ending : (outer at : ℕ) (t : List ℕ) (r : Read ℕ) → outer ≤ max_number → AllGood byte_head Good levels_below outer at 0 t r
        → TreePlan (nothing_after outer r)
    of_ending outer at t (reached l next []) o g = (o, g (omega arith))
    of_ending outer at t (reached l next (b ∷ rest)) o g = tt
    of_ending outer at t (breach place) o g = tt

    of_outer : (p : Parsed) → NumberAfter s 0 p → TreePlan (with_outer p)
    of_outer (value n next rest) u = of_ending n next rest (entries_of byte_head levels_below n next 0 rest) u.small (trees levels_below n next 0 rest)
    of_outer (bad place) u = tt

    go : (b : Bool) → TreePlan (cond b (refused input_too_long 0) (with_outer (plan_number 0 s)))
    go true = tt
    go false = of_outer (plan_number 0 s) (number_inside s 0)

-- it is that hall, and its entries are those that were read
pub record ReadHall (s : List ℕ) (outer : ℕ) (l : List Entry) : Type 0 where
  pub accepted : AcceptedHall s
  pub same_outer : count accepted.hall ≡ outer
  pub same_entries : listed accepted.hall ≡ l

read_hall : (s : List ℕ) (outer : ℕ) (l : List Entry) → halls_of s ≡ halls outer l → ReadHall s outer l
read_hall s outer l e = go (rw e at (tree_plan s))
  where
    go : TreePlan (halls outer l) → ReadHall s outer l
    go (o, w) =
        let same : halls_of s ≡ halls (count w.hall) (listed w.hall) = e ∙ rw (w.is_count, w.is_listed) in
        record {
          accepted = record {
            hall = w.hall;
            within = record { eight_levels_lem = w.deep; few_chutes = omega (arith, w.few); outer_fits = omega (arith, w.is_count); fits = w.fits };
            is = is_hall w.hall s same;
          };
          same_outer = w.is_count;
          same_entries = w.is_listed;
        }

of_accepted : (s : List ℕ) → (hall_summary_of s).number ≡ done → AcceptedHall s
unfolding hall_summary_of
of_accepted s z = go (halls_of s) refl (plan_numbered s) z
  where
    go : (p : HallPlan) → halls_of s ≡ p → Numbered p → (hall_summary p).number ≡ done → AcceptedHall s
    go (halls outer l) e n q = (read_hall s outer l e).accepted
    go (refused m place) e n q = absurd (omega arith)

-- the flat plan of a hall's destinations
fits_append : (l m : List ℕ) → EachFits l → EachFits m → EachFits (l ++ m)
fits_append [] m a b = b
fits_append (v ∷ l) m a b = (a.0, fits_append l m a.1 b)

chutes_fit : (h : Hall) → NumbersFit h → EachFits (destinations_of h)
unfolding destinations_of NumbersFit
chutes_fit none f = tt
chutes_fit (chute d more) f = (f.0, chutes_fit more f.1)
chutes_fit (inner h more) f = fits_append (destinations_of h) (destinations_of more) (chutes_fit h f.1.0) (chutes_fit more f.1.1)

of_flat : (h : Hall) (s out : List ℕ) → HallLimits h → IsHall h s → length out ≡ (length_of (destinations_of h)).length
    → (write_refusal (destinations_of h) (length out) ≡ done) × ((c : ℕ) → hall_lookup_of s c ≡ lookup_of (written_of (destinations_of h) out) c)
of_flat h s out a i n =
    let ok = round_trip.accepts (destinations_of h) a.few_chutes (chutes_fit h a.fits) in
    let written : write_refusal (destinations_of h) (length out) ≡ done = rw n (round_trip.length_accepted (destinations_of h) ok) in
    (written, λ c. i.every_chute c ∙ sym ((round_trip.reads_back (destinations_of h) out written).every_chute c))

-- writing, by what reading gives back
same_written : (outer : ℕ) (kinds values s : List ℕ) (l : List Entry) → halls_of s ≡ halls outer l → kinds_of l ≡ kinds → values_of l ≡ values
    → Written outer kinds values s
same_written outer kinds values s l e k v =
    let w = read_hall s outer l e in
    record {
      accepted = w.accepted;
      same_outer = w.same_outer;
      same_kinds = ap kinds_of w.same_entries ∙ k;
      same_values = ap values_of w.same_entries ∙ v;
    }

of_written : (outer : ℕ) (kinds values out : List ℕ) → hall_write_refusal outer kinds values (length out) ≡ done
    → Written outer kinds values (hall_written_of outer kinds values out)
of_written outer kinds values out e =
    let w = written_reads outer kinds values out e in
    same_written outer kinds values (hall_written_of outer kinds values out) w.entries w.is w.same_kinds w.same_values

same_bytes : (outer outer' : ℕ) (kinds kinds' values values' out out' : List ℕ) → hall_write_refusal outer kinds values (length out) ≡ done
    → hall_write_refusal outer' kinds' values' (length out') ≡ done → hall_written_of outer kinds values out ≡ hall_written_of outer' kinds' values' out'
    → (outer ≡ outer') × ((kinds ≡ kinds') × (values ≡ values'))
same_bytes outer outer' kinds kinds' values values' out out' e e' same =
    let w = written_reads outer kinds values out e in
    let w' = written_reads outer' kinds' values' out' e' in
    let both : halls outer w.entries ≡ halls outer' w'.entries = sym w.is ∙ ap halls_of same ∙ w'.is in
    let one : outer ≡ outer' = cc in
    let entries : w.entries ≡ w'.entries = cc in
    (one, (sym w.same_kinds ∙ ap kinds_of entries ∙ w'.same_kinds, sym w.same_values ∙ ap values_of entries ∙ w'.same_values))

every_length : (h : Hall) → HallLimits h
    → hall_length_of (count h) (kinds_of (listed h)) (values_of (listed h)) ≡ length_within (length (written_halls (count h) (listed h)))
unfolding hall_length_of
every_length h w = rw (hall_allowed h w, pairs_back (listed h))

pub hall_theorems : HallTheorems
hall_theorems =
    record {
      accepted = of_accepted;
      flat_plan = of_flat;
      reads_back = of_written;
      equal_bytes = same_bytes;
      every_hall = every_length;
      length_accepted = asked_accepted;
      not_both = not_both;
      one_hall = one_hall;
    }
