-- The theorems on places. What each answer is without its place follows by the cases of what reading a plan whole finds.
use mathlib.Core.Path.{◌≡◌, refl, ap, ◌∙◌}
use mathlib.Core.List.{List}
use mathlib.Core.Bool.{Bool, true, false, cond}
use Prim.Native.Nat.{ℕ, zero, suc}
use lib.ListN.{length, get_or, drop}
use lib.Dec.{ltb}
use Rattle.answers.specs.Numbers.{done, input_too_long, malformed_plan, no_such_chute}
use Rattle.answers.specs.Done.{if_done}
use Rattle.answers.specs.Breaches.{no_place}
use Rattle.plan_read.specs.Limits.{max_plan}
use Rattle.plan_read.specs.Plan.{Plan, rows, refused, plan_of, plan_number, row_answer}
use Rattle.plan_read.specs.declared.Row.{Row}
use Rattle.std.specs.Prelude.{Result, Ok, Err}
use Rattle.answers.specs.declared.Malformed.{Malformed}
use Rattle.plan.specs.Answers.{summary, summary_of, found_destination, no_destination, lookup_of, lookup_in}
use Rattle.plan.specs.declared.Lookup.{Lookup}
use Rattle.plan_walk.specs.Walk.{first_row_at, stay, asked, walk_start, walk_step}
use Rattle.plan_walk.specs.declared.Cursor.{Cursor}
use Rattle.plan_walk.proofs.Walking.{start_place_lem}
use Rattle.plan_walker.proofs.Walks.{walks}
use Rattle.plan_length.specs.Length.{written_plan, allowed, length_is, no_length, length_of}
use Rattle.plan_length.specs.declared.PlanLength.{PlanLength}
use Rattle.plan_length.specs.declared.PlanWritten.{PlanWritten}
use Rattle.hall_entry.specs.Entries.{destinations}
use Rattle.hall_read.specs.Halls as H
use Rattle.hall.specs.Answers.{hall_summary, refused_summary, hall_summary_of, hall_lookup, hall_lookup_of}
use Rattle.hall.specs.declared.HallSummary.{HallSummary}
use Rattle.hall_lists.specs.Lists.{lists_fit, lists_answer, lists_summary}
use Rattle.hall_check.specs.Lists.{pairs, lists_allowed}
use Rattle.hall_length.specs.Written.{written_halls}
use Rattle.hall_length.specs.Length.{too_long, length_within, hall_length_of}
use Rattle.place_theorems.specs.Without.{
  summary_without,
  summary_by,
  lookup_without,
  lookup_in_by,
  hall_lookup_by,
  cursor_without,
  walk_without,
  asked_by,
  hall_without,
  hall_by,
  lists_by,
  length_without,
}
use Rattle.place_theorems.specs.PlaceTheorems.{OnePlace, WithoutPlaces, PlaceTheorems}
use Rattle.place_theorems.proofs.Numbers.{number_fails}
use Rattle.place_theorems.proofs.Plans.{read_place}
use Rattle.place_theorems.proofs.Halls.{halls_place, empty_alone}
use Rattle.place_theorems.proofs.Pairs.{row_place, pair_places}
use Rattle.place_theorems.proofs.Located.{of_cond, row_without_lem, location_without_lem}

-- a function of one of two values that is the same of both
both_cond : {A B : Type 0} (f : A → B) (t : Bool) (x y : A) (z : B) → f x ≡ z → f y ≡ z → f (cond t x y) ≡ z
both_cond f true x y z e q = e
both_cond f false x y z e q = q

-- a lookup in a list of destinations
in_list : (l : List ℕ) (chute : ℕ) → ((lookup_in l chute).place ≡ no_place) × (lookup_without (lookup_in l chute) ≡ lookup_in_by l chute)
in_list l zero = (refl, refl)
in_list l (suc c) = (
  both_cond (λ (a : Lookup). a.place) (ltb c (length l)) (found_destination (get_or l c 0)) (no_destination no_such_chute no_place) no_place refl refl,
  of_cond lookup_without (ltb c (length l)) (found_destination (get_or l c 0)) (no_destination no_such_chute no_place),
)

module _ (chute n m : ℕ) where
  halls_one : (p : H.HallPlan) → ((hall_lookup chute p).place ≡ (hall_summary p).place) × ((lists_answer n m p).place ≡ (hall_summary p).place)
  halls_one (H.halls outer l) = (
    (in_list (destinations l) chute).0,
    both_cond (λ (a : HallSummary). a.place) (lists_fit (length l) n m) (hall_summary (H.halls outer l)) (refused_summary malformed_plan no_place) no_place
        refl refl,
  )
  halls_one (H.refused r place) = (refl, refl)

  halls_before : (p : H.HallPlan)
      → (hall_without (hall_summary p) ≡ hall_by p)
      × ((lookup_without (hall_lookup chute p) ≡ hall_lookup_by chute p) × (hall_without (lists_answer n m p) ≡ lists_by n m p))
  halls_before (H.halls outer l) = (
    refl,
    (
      (in_list (destinations l) chute).1,
      of_cond hall_without (lists_fit (length l) n m) (hall_summary (H.halls outer l)) (refused_summary malformed_plan no_place),
    ),
  )
  halls_before (H.refused r place) = (refl, (refl, refl))

-- what is written has a length and no place
within_length : (n : ℕ) → ((length_within n).place ≡ no_place) × (length_without (length_within n) ≡ cond (ltb max_plan n) (input_too_long, 0) (done, n))
within_length n = (
  both_cond (λ (a : PlanLength). a.place) (ltb max_plan n) too_long (length_is n) no_place refl refl,
  of_cond length_without (ltb max_plan n) too_long (length_is n),
)

one_place : OnePlace
unfolding lookup_of hall_summary_of hall_lookup_of lists_summary length_of hall_length_of
one_place =
    record {
      row = row_place;
      lookup = row_place;
      start = start_place_lem;
      ask = λ plan k. ap (λ (a : Lookup). a.place) (walks plan k).answers ∙ row_place plan.now (suc k);
      hall_lookup_lem = λ s chute. (halls_one chute 0 0 (H.halls_of s)).0;
      lists = λ s n m. (halls_one 0 n m (H.halls_of s)).1;
      measured = λ l. both_cond (λ (a : PlanLength). a.place) (allowed l) (length_is (length (written_plan l))) no_length no_place refl refl;
      hall_measured = λ outer kinds values.
          let n = length (written_halls outer (pairs kinds values)) in
          both_cond (λ (a : PlanLength). a.place) (lists_allowed outer kinds values) (length_within n) no_length no_place (within_length n).0 refl;
      write = λ l out after r w. ap (λ (a : PlanWritten). a.place) w.answer;
      hall_write = λ outer kinds values out after r w. ap (λ (a : PlanWritten). a.place) w.answer;
    }

summary_before : (p : Plan) → summary_without (summary p) ≡ summary_by p
summary_before (rows l) = refl
summary_before (refused n place) = refl

step_before : (c : Cursor) (n : ℕ) (r : Result Row Malformed)
    → walk_without (if_done n (asked c r) (stay c.number c.place c)) ≡ if_done n (asked_by (cursor_without c) r) (c.number, (0, cursor_without c))
step_before c zero (Ok row) = refl
step_before c zero (Err e) = refl
step_before c (suc n) r = refl

without_places : WithoutPlaces
unfolding summary_of lookup_of walk_start walk_step hall_summary_of hall_lookup_of lists_summary length_of hall_length_of
without_places =
    record {
      read = λ s. summary_before (plan_of s);
      row = row_without_lem;
      lookup = λ s chute. ap (λ (a : ℕ × Row). (a.0, a.1.destination)) (row_without_lem s chute);
      location = location_without_lem;
      start = λ s. ap (λ (a : ℕ × ℕ). (a.0, if_done a.0 (first_row_at s) 0)) (summary_before (plan_of s));
      step = λ s c. step_before c c.number (row_answer c.at (plan_number c.at (drop c.at s)));
      halls = λ s. (halls_before 0 0 0 (H.halls_of s)).0;
      hall_lookup_lem = λ s chute. (halls_before chute 0 0 (H.halls_of s)).1.0;
      lists = λ s n m. (halls_before 0 n m (H.halls_of s)).1.1;
      measured = λ l. of_cond length_without (allowed l) (length_is (length (written_plan l))) no_length;
      hall_measured = λ outer kinds values.
          let n = length (written_halls outer (pairs kinds values)) in
          of_cond length_without (lists_allowed outer kinds values) (length_within n) no_length ∙ rw (within_length n).1;
      write = λ l out after r w. ap (λ (a : PlanWritten). a.number) w.answer;
      hall_write = λ outer kinds values out after r w. ap (λ (a : PlanWritten). a.number) w.answer;
    }

pub place_theorems : PlaceTheorems
place_theorems =
    record {
      number = number_fails;
      read = read_place;
      halls = halls_place;
      empty_alone = empty_alone;
      pair = pair_places;
      one_place = one_place;
      without_places = without_places;
    }
