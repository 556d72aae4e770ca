-- Laws of refused hall plans: each has a number, and its number and place are those of a refusal of the table.
use Rattle.std.specs.Prelude.{◌≡◌, refl, List, [], ◌∷◌, Bool, true, false, cond, ℕ, ◌≤◌, ltb, length}
use Rattle.std.proofs.Common.{arith}
use Rattle.answers.specs.Numbers.{input_too_long}
use Rattle.answers.specs.Places.{plan_refusal_number, plan_refusal_place, plan_refusal_of}
use Rattle.leb128.specs.Number.{Parsed, value, bad}
use Rattle.plan_read.specs.Limits.{max_plan}
use Rattle.plan_read.specs.Plan.{plan_number}
use Rattle.hall_entry.specs.Limits.{levels_below}
use Rattle.hall_entry.specs.Entries.{Read, reached, breach, entries_of}
use Rattle.hall_entry.specs.Bytes.{byte_head}
use Rattle.hall_read.specs.Halls.{HallPlan, halls, refused, nothing_after, with_outer, halls_of}

abbrev pub Numbered : HallPlan → Type 0
Numbered (halls outer l) = Unit
Numbered (refused n place) = 1 ≤ n

pub plan_numbered : (s : List ℕ) → Numbered (halls_of s)
unfolding halls_of
plan_numbered s = go (ltb max_plan (length s))
  where
    of_ending : (outer : ℕ) (r : Read ℕ) → Numbered (nothing_after outer r)
    of_ending outer (reached l next []) = tt
    of_ending outer (reached l next (b ∷ rest)) = omega arith
    of_ending outer (breach place) = omega arith

    of_outer : (p : Parsed) → Numbered (with_outer p)
    of_outer (value n next rest) = of_ending n (entries_of byte_head levels_below n next 0 rest)
    of_outer (bad place) = omega arith

    go : (b : Bool) → Numbered (cond b (refused input_too_long 0) (with_outer (plan_number 0 s)))
    go true = omega arith
    go false = of_outer (plan_number 0 s)

-- the refusal of a number and a place has these
abbrev pub Refusal : HallPlan → Type 0
Refusal (halls outer l) = Unit
Refusal (refused n place) = (plan_refusal_number (plan_refusal_of n place) ≡ n) × (plan_refusal_place (plan_refusal_of n place) ≡ place)

pub plan_refusal : (s : List ℕ) → Refusal (halls_of s)
unfolding halls_of
plan_refusal s = go (ltb max_plan (length s))
  where
    of_ending : (outer : ℕ) (r : Read ℕ) → Refusal (nothing_after outer r)
    of_ending outer (reached l next []) = tt
    of_ending outer (reached l next (b ∷ rest)) = (refl, refl)
    of_ending outer (breach place) = (refl, refl)

    of_outer : (p : Parsed) → Refusal (with_outer p)
    of_outer (value n next rest) = of_ending n (entries_of byte_head levels_below n next 0 rest)
    of_outer (bad place) = (refl, refl)

    go : (b : Bool) → Refusal (cond b (refused input_too_long 0) (with_outer (plan_number 0 s)))
    go true = (refl, refl)
    go false = of_outer (plan_number 0 s)
