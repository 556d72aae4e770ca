-- What holds of the places that answers on plans tell (docs/RULES.md, 'Places'), by the answers that the entries promise.
use Rattle.std.specs.Prelude.{ℕ, ◌+◌, ◌≤◌, ◌<◌, ◌≡◌, ◌⊎◌, ◌↔◌, List, [], length, get_or, drop, Option, Some, None}
use Rattle.std.specs.Borrow.{Bor}
use Rattle.answers.specs.Numbers.{input_too_long, malformed_plan}
use Rattle.answers.specs.Breaches.{no_place}
use Rattle.leb128.specs.Number.{bad}
use Rattle.plan_read.specs.Plan.{plan_number, plan_of}
use Rattle.plan.specs.Answers.{summary_of, chute_row_of, lookup_of}
use Rattle.plan_pair.specs.Pair.{Location, location_of}
use Rattle.plan_pair.specs.declared.Source.{Source}
use Rattle.plan_pair.specs.declared.Source.TheVariants.{Site, House}
use Rattle.plan_walk.specs.Walk.{walk_start, walk_step}
use Rattle.plan_walk.specs.declared.Cursor.{Cursor}
use Rattle.plan_walker.specs.Walker.{asks}
use Rattle.plan_walker.specs.Walks.{walker_of, after_asks}
use Rattle.plan_length.specs.Length.{length_of}
use Rattle.plan_length.specs.declared.PlanWritten.{PlanWritten}
use Rattle.plan_write.specs.Write.{write_refusal, WritesPlan}
use Rattle.hall_read.specs.Halls.{halls_of}
use Rattle.hall.specs.Answers.{hall_summary_of, hall_lookup_of}
use Rattle.hall_lists.specs.Lists.{lists_summary}
use Rattle.hall_length.specs.Length.{hall_length_of}
use Rattle.hall_write.specs.Write.{hall_write_refusal, WritesHalls}
use Rattle.place_theorems.specs.Without.{
  summary_without,
  summary_by,
  row_without,
  row_by,
  lookup_without,
  lookup_by,
  hall_lookup_by,
  location_without,
  location_by,
  cursor_without,
  start_by,
  walk_without,
  step_by,
  hall_without,
  hall_by,
  lists_by,
  length_without,
  length_by,
  hall_length_by,
}

-- Reading a number of a plan s at `at` fails at the first byte that is missing; at its third byte, which is there and promises another; or at its second or
-- third, which is there and 0, so that the number needs fewer.
abbrev pub NumberFails : List ℕ → ℕ → ℕ → Type 0
NumberFails s at place =
    ((place ≡ length s) × (place ≤ at + 2))
    ⊎ (((place ≡ at + 2) × ((place < length s) × (128 ≤ get_or s place 0)))
    ⊎ ((at + 1 ≤ place) × ((place ≤ at + 2) × ((place < length s) × (get_or s place 0 ≡ 0)))))

-- A place is never past its plan's length, and where there is none is 0.
pub record PlaceIn (s : List ℕ) (number place : ℕ) : Type 0 where
  pub within : place ≤ length s
  pub malformed_alone : (number ≡ malformed_plan → ⊥) → place ≡ no_place

-- the plan that an answer on two plans names
abbrev pub named_plan : Option Source → List ℕ → List ℕ → List ℕ
named_plan None site house = []
named_plan (Some Site) site house = site
named_plan (Some House) site house = house

-- Of two plans with the answer a: 9 exactly where neither is too long and one is malformed; then the first malformed one is named, with its own place, which is
-- not past that plan's length.
pub record PairPlaces (site house : List ℕ) (a : Location) : Type 0 where
  pub malformed : (a.number ≡ malformed_plan)
      ↔ (((summary_of site).number ≡ input_too_long → ⊥)
      × (((summary_of house).number ≡ input_too_long → ⊥)
      × (((summary_of site).number ≡ malformed_plan) ⊎ ((summary_of house).number ≡ malformed_plan))))
  pub site_first : a.number ≡ malformed_plan → (summary_of site).number ≡ malformed_plan → (a.malformed ≡ Some Site) × (a.place ≡ (summary_of site).place)
  pub else_house : a.number ≡ malformed_plan → ((summary_of site).number ≡ malformed_plan → ⊥)
      → (a.malformed ≡ Some House) × (a.place ≡ (summary_of house).place)
  pub neither : (a.number ≡ malformed_plan → ⊥) → (a.malformed ≡ None) × (a.place ≡ no_place)
  pub within : a.place ≤ length (named_plan a.malformed site house)

-- Every answer on one plan tells the place that reading it tells; what is written has none. (Migration reads by another rule: migration_theorems.)
pub record OnePlace : Type 0 where
  pub row : (s : List ℕ) (chute : ℕ) → (chute_row_of s chute).place ≡ (summary_of s).place
  pub lookup : (s : List ℕ) (chute : ℕ) → (lookup_of s chute).place ≡ (summary_of s).place
  pub start : (s : List ℕ) → (walk_start s).place ≡ (summary_of s).place
  -- after any number of asks of a walker
  pub ask : (plan : Bor (List ℕ)) (k : ℕ) → (asks (after_asks k (walker_of plan))).place ≡ (summary_of plan.now).place
  pub hall_lookup_lem : (s : List ℕ) (chute : ℕ) → (hall_lookup_of s chute).place ≡ (hall_summary_of s).place
  -- with lists of every length: of a well-formed hall plan that is none
  pub lists : (s : List ℕ) (n m : ℕ) → (lists_summary s n m).place ≡ (hall_summary_of s).place
  pub measured : (l : List ℕ) → (length_of l).place ≡ no_place
  pub hall_measured : (outer : ℕ) (kinds values : List ℕ) → (hall_length_of outer kinds values).place ≡ no_place
  pub write : (l out after : List ℕ) (r : PlanWritten) → WritesPlan l out after r → r.place ≡ no_place
  pub hall_write : (outer : ℕ) (kinds values out after : List ℕ) (r : PlanWritten) → WritesHalls outer kinds values out after r → r.place ≡ no_place

-- Without its place every answer is what reading the plan whole finds makes it: the place changes no other field.
pub record WithoutPlaces : Type 0 where
  pub read : (s : List ℕ) → summary_without (summary_of s) ≡ summary_by (plan_of s)
  pub row : (s : List ℕ) (chute : ℕ) → row_without (chute_row_of s chute) ≡ row_by chute (plan_of s)
  pub lookup : (s : List ℕ) (chute : ℕ) → lookup_without (lookup_of s chute) ≡ lookup_by chute (plan_of s)
  pub location : (site house : List ℕ) (chute : ℕ)
      → location_without (location_of site house chute) ≡ location_by (row_by chute (plan_of site)) (row_by chute (plan_of house))
  pub start : (s : List ℕ) → cursor_without (walk_start s) ≡ start_by s
  pub step : (s : List ℕ) (c : Cursor) → walk_without (walk_step s c) ≡ step_by s (cursor_without c)
  pub halls : (s : List ℕ) → hall_without (hall_summary_of s) ≡ hall_by (halls_of s)
  pub hall_lookup_lem : (s : List ℕ) (chute : ℕ) → lookup_without (hall_lookup_of s chute) ≡ hall_lookup_by chute (halls_of s)
  pub lists : (s : List ℕ) (n m : ℕ) → hall_without (lists_summary s n m) ≡ lists_by n m (halls_of s)
  pub measured : (l : List ℕ) → length_without (length_of l) ≡ length_by l
  pub hall_measured : (outer : ℕ) (kinds values : List ℕ) → length_without (hall_length_of outer kinds values) ≡ hall_length_by outer kinds values
  pub write : (l out after : List ℕ) (r : PlanWritten) → WritesPlan l out after r → r.number ≡ write_refusal l (length out)
  pub hall_write : (outer : ℕ) (kinds values out after : List ℕ) (r : PlanWritten) → WritesHalls outer kinds values out after r
      → r.number ≡ hall_write_refusal outer kinds values (length out)

pub record PlaceTheorems : Type 0 where
  pub number : (s : List ℕ) (at place : ℕ) → at ≤ length s → plan_number at (drop at s) ≡ bad place → NumberFails s at place
  pub read : (s : List ℕ) → PlaceIn s (summary_of s).number (summary_of s).place
  pub halls : (s : List ℕ) → PlaceIn s (hall_summary_of s).number (hall_summary_of s).place
  -- no hall plan but the empty one is malformed at 0: so a binding tells lists of the wrong length, refused with 9 at 0, from a malformed plan
  pub empty_alone : (s : List ℕ) → (hall_summary_of s).number ≡ malformed_plan → (hall_summary_of s).place ≡ 0 → s ≡ []
  pub pair : (site house : List ℕ) (chute : ℕ) → PairPlaces site house (location_of site house chute)
  pub one_place : OnePlace
  pub without_places : WithoutPlaces
