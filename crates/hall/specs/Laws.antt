-- Laws of the questions on a hall plan: what reading it whole found is what they answer with.
use Rattle.std.specs.Prelude.{◌≡◌, refl, List, Bool, true, false, cond, ℕ, zero, suc, ◌≤◌, ◌<◌, leb, length, Result, Ok, Err}
use Rattle.std.proofs.Common.{ap, ◌∙◌, le-leb, leb-true, leb-false, lt-ltb, le-ltb, arith}
use Rattle.answers.specs.Numbers.{no_such_chute}
use Rattle.answers.specs.Breaches.{no_place}
use Rattle.answers.specs.Places.{plan_refusal_number, plan_refusal_place}
use Rattle.answers.specs.declared.PlanRefusal.{PlanRefusal}
use Rattle.plan.specs.Answers.{has_chute, found_destination, no_destination, lookup_in}
use Rattle.plan.specs.declared.Lookup.{Lookup}
use Rattle.hall_entry.specs.Entries.{destinations}
use Rattle.hall_read.specs.Halls.{HallPlan, halls, refused, halls_of}
use Rattle.hall_read.specs.Passing.{chute_at}
use Rattle.hall_read.specs.Answers.{hall_answer}
use Rattle.hall_read.specs.Laws.Refusals.{Refusal, plan_refusal}
use Rattle.hall_read.specs.declared.HallRead.{HallRead}
use Rattle.hall.specs.Answers.{refused_summary, accepted_summary, hall_summary, hall_summary_of, hall_lookup, hall_lookup_of}
use Rattle.hall.specs.declared.HallSummary.{HallSummary}

-- the answers, by the cases of what reading whole finds
abbrev pub summary_answer : Result HallRead PlanRefusal → HallSummary
summary_answer (Ok h) = accepted_summary h.outer h.entries h.chutes
summary_answer (Err e) = refused_summary (plan_refusal_number e) (plan_refusal_place e)

abbrev pub lookup_answer : ℕ → Result HallRead PlanRefusal → Lookup
lookup_answer chute (Ok h) = cond (has_chute h.chutes chute) (found_destination h.found) (no_destination no_such_chute no_place)
lookup_answer chute (Err e) = no_destination (plan_refusal_number e) (plan_refusal_place e)

-- the chute that one pass keeps is the flat list's
kept_is : (l : List ℕ) (chute : ℕ)
    → cond (has_chute (length l) chute) (found_destination (chute_at chute l)) (no_destination no_such_chute no_place) ≡ lookup_in l chute
kept_is l zero = refl
kept_is l (suc c) = let one : 1 ≤ suc c = omega arith in rw (le-leb 1 (suc c) one) (go (leb (suc c) (length l)) refl)
  where
    go : (t : Bool) → leb (suc c) (length l) ≡ t
        → cond t (found_destination (chute_at (suc c) l)) (no_destination no_such_chute no_place) ≡ lookup_in l (suc c)
    go true e = let some : c < length l = omega (arith, leb-true (suc c) (length l) e) in rw (lt-ltb _ _ some)
    go false e = let none : length l ≤ c = omega (arith, leb-false (suc c) (length l) e) in rw (le-ltb _ _ none)

pub summary_is : (s : List ℕ) → summary_answer (hall_answer 0 (halls_of s)) ≡ hall_summary_of s
unfolding hall_summary_of
summary_is s = go (halls_of s) (plan_refusal s)
  where
    go : (p : HallPlan) → Refusal p → summary_answer (hall_answer 0 p) ≡ hall_summary p
    go (halls outer l) f = refl
    go (refused n place) f = rw (f.0, f.1)

pub lookup_is : (s : List ℕ) (chute : ℕ) → lookup_answer chute (hall_answer chute (halls_of s)) ≡ hall_lookup_of s chute
unfolding hall_lookup_of
lookup_is s chute = go (halls_of s) (plan_refusal s)
  where
    go : (p : HallPlan) → Refusal p → lookup_answer chute (hall_answer chute p) ≡ hall_lookup chute p
    go (halls outer l) f = kept_is (destinations l) chute
    go (refused n place) f = rw (f.0, f.1)

-- what the plan has, and its refusal
module _ (s : List ℕ) where
  pub summary_read : (h : HallRead) → Ok h ≡ hall_answer 0 (halls_of s) → accepted_summary h.outer h.entries h.chutes ≡ hall_summary_of s
  summary_read h e = ap summary_answer e ∙ summary_is s

  pub summary_refused : (r : PlanRefusal) → Err r ≡ hall_answer 0 (halls_of s)
      → refused_summary (plan_refusal_number r) (plan_refusal_place r) ≡ hall_summary_of s
  summary_refused r e = ap summary_answer e ∙ summary_is s

  -- the chute that it has, one that it has not, and its refusal
  module _ (chute : ℕ) where
    pub lookup_found : (h : HallRead) → Ok h ≡ hall_answer chute (halls_of s) → true ≡ has_chute h.chutes chute
        → found_destination h.found ≡ hall_lookup_of s chute
    lookup_found h e t = (rw (← t)) ∙ ap (lookup_answer chute) e ∙ lookup_is s chute

    pub lookup_missing : (h : HallRead) → Ok h ≡ hall_answer chute (halls_of s) → false ≡ has_chute h.chutes chute
        → no_destination no_such_chute no_place ≡ hall_lookup_of s chute
    lookup_missing h e t = (rw (← t)) ∙ ap (lookup_answer chute) e ∙ lookup_is s chute

    pub lookup_refused : (r : PlanRefusal) → Err r ≡ hall_answer chute (halls_of s)
        → no_destination (plan_refusal_number r) (plan_refusal_place r) ≡ hall_lookup_of s chute
    lookup_refused r e = ap (lookup_answer chute) e ∙ lookup_is s chute
