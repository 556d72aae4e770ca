-- A hall plan read whole, by its length, its outermost number and where the pass over its entries came to.
use Rattle.std.proofs.Common.{◌≡◌, refl, ap, ◌∙◌, List, [], ◌∷◌, ℕ, ◌+◌, ◌≤◌, ◌<◌, cond, ltb, length, drop, length-drop, arith, Result, Ok, Err}
use borrow.Author.Tests.{lt-ltb, le-ltb}
use Rattle.answers.specs.declared.Malformed.{Malformed}
use Rattle.answers.specs.declared.PlanRefusal.{PlanRefusal}
use Rattle.leb128.specs.Number.{Parsed, value, bad}
use Rattle.leb128.specs.Answers.{number_answer, ReadsNumber}
use Rattle.leb128.specs.declared.Number.{Number}
use Rattle.plan_read.specs.Limits.{max_plan}
use Rattle.plan_read.specs.Plan.{plan_number}
use Rattle.hall_entry.specs.Limits.{levels_below}
use Rattle.hall_entry.specs.Entries.{Entry, destinations, Read, reached, breach, entries_of}
use Rattle.hall_entry.specs.Bytes.{byte_head}
use Rattle.hall_entry.specs.Laws.Bytes.{NumberAfter, number_inside, byte_heads}
use Rattle.hall_read.specs.Halls.{HallPlan, halls, refused, nothing_after, with_outer, halls_of}
use Rattle.hall_read.specs.Passing.{start_at, passed_over}
use Rattle.hall_read.specs.Answers.{hall_answer, hall_values, parsed_halls, ReadsHalls}
use Rattle.hall_read.specs.declared.Progress.{Progress}
use Rattle.hall_read.specs.declared.HallRead.{HallRead}
use Rattle.hall_read.specs.Laws.Kept.{kept_first}
use Rattle.hall_read.specs.Laws.Reading.{After, after_hall}
use Rattle.hall_read.specs.Laws.Refusals.{Refusal, plan_refusal}

-- the answer from the outermost number, the number of bytes and where the pass over the entries came to
abbrev pub end_answer : ℕ → ℕ → Result Progress Malformed → Result HallRead PlanRefusal
end_answer outer n (Ok p) =
    cond (ltb p.at n) (Err (PlanRefusal.Malformed (record { place = p.at })))
    (Ok (record { outer = outer; entries = p.entries; chutes = p.chutes; found = p.found }))
end_answer outer n (Err m) = Err (PlanRefusal.Malformed m)

-- the values follow from the answer
values_of : (chute : ℕ) (p : HallPlan) → Refusal p → hall_values (hall_answer chute p) ≡ parsed_halls chute p
values_of chute (halls outer l) f = refl
values_of chute (refused n place) f = rw (f.0, f.1)

module _ (c : ℕ) (s : List ℕ) where
  answers_as : (r : Result HallRead PlanRefusal) → r ≡ hall_answer c (halls_of s) → ReadsHalls c (halls_of s) r
  answers_as r e = record { answer = e; values = ap hall_values e ∙ values_of c (halls_of s) (plan_refusal s) }

  too_long : max_plan < length s → Err PlanRefusal.TooLong ≡ hall_answer c (halls_of s)
  unfolding halls_of
  too_long h = rw (lt-ltb _ _ h)

  pub whole_long : max_plan < length s → ReadsHalls c (halls_of s) (Err PlanRefusal.TooLong)
  whole_long h = answers_as (Err PlanRefusal.TooLong) (too_long h)

  end_reached : (outer at next : ℕ) (l : List Entry) (rest : List ℕ) → rest ≡ drop next s
      → end_answer outer (length s) (passed_over c (start_at at) (reached l next rest)) ≡ hall_answer c (nothing_after outer (reached l next rest))
  end_reached outer at next l [] e =
      let k : length s ≤ next = omega (arith, ap length e, length-drop next s) in
      let zl : 0 + length l ≡ length l = omega arith in
      let zd : 0 + length (destinations l) ≡ length (destinations l) = omega arith in
      rw (le-ltb _ _ k, zl, zd, kept_first c (destinations l))
  end_reached outer at next l (b ∷ rest) e =
      let k : next < length s = omega (arith, ap length e, length-drop next s) in
      rw (lt-ltb _ _ k)

  end_answer_lem : (outer at : ℕ) (r : Read ℕ) → After s outer at r
      → end_answer outer (length s) (passed_over c (start_at at) r) ≡ hall_answer c (nothing_after outer r)
  end_answer_lem outer at (reached l next rest) a = end_reached outer at next l rest a.left
  end_answer_lem outer at (breach place) a = refl

  -- from the outermost number on
  abbrev outer_answer : Result Number Malformed → Result HallRead PlanRefusal
  outer_answer (Ok n) =
      end_answer n.value (length s) (passed_over c (start_at n.next) (entries_of byte_head levels_below n.value n.next 0 (drop n.next s)))
  outer_answer (Err m) = Err (PlanRefusal.Malformed m)

  outer_answer_lem : (p : Parsed) → NumberAfter s 0 p → outer_answer (number_answer p) ≡ hall_answer c (with_outer p)
  outer_answer_lem (value n next rest) u =
      rw u.left (end_answer_lem n next (entries_of byte_head levels_below n next 0 (drop next s))
      (after_hall s byte_head (λ at. at ≤ length s) (λ at h. h) (λ levels chutes at h. byte_heads s levels chutes at) levels_below n next 0 u.inside))
  outer_answer_lem (bad place) u = refl

  module _ (h : length s ≤ max_plan) where
    whole_after : outer_answer (number_answer (plan_number 0 (drop 0 s))) ≡ hall_answer c (halls_of s)
    unfolding halls_of
    whole_after = rw (le-ltb _ _ h) (outer_answer_lem (plan_number 0 s) (number_inside s 0))

    pub no_outer : (m : Malformed) → ReadsNumber (plan_number 0 (drop 0 s)) (Err m) → ReadsHalls c (halls_of s) (Err (PlanRefusal.Malformed m))
    no_outer m r = answers_as (Err (PlanRefusal.Malformed m)) (ap outer_answer r.answer ∙ whole_after)

    -- the outermost number n, and what the pass over the entries came to
    pub read_end : (n : Number) → ReadsNumber (plan_number 0 (drop 0 s)) (Ok n) → (r : Result Progress Malformed)
        → r ≡ passed_over c (start_at n.next) (entries_of byte_head levels_below n.value n.next 0 (drop n.next s))
        → ReadsHalls c (halls_of s) (end_answer n.value (length s) r)
    read_end n k r e = rw e (answers_as (outer_answer (Ok n)) (ap outer_answer k.answer ∙ whole_after))
