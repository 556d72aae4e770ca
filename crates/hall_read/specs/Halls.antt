-- A hall plan (docs/RULES.md, 'Hall plan'): the outermost number of entries, then the entries, then nothing more. Reading a hall plan of more than 65,536 bytes
-- is refused with 5, a malformed one with 9.
use Rattle.std.specs.Prelude.{ℕ, List, [], ◌∷◌, cond, ltb, length}
use Rattle.answers.specs.Numbers.{input_too_long, malformed_plan}
use Rattle.answers.specs.Breaches.{bytes_after, place_of, no_place}
use Rattle.leb128.specs.Number.{Parsed, value, bad}
use Rattle.plan_read.specs.Limits.{max_plan}
use Rattle.plan_read.specs.Plan.{plan_number}
use Rattle.hall_entry.specs.Limits.{levels_below}
use Rattle.hall_entry.specs.Entries.{Entry, Read, reached, breach, entries_of}
use Rattle.hall_entry.specs.Bytes.{byte_head}

-- what a list of bytes is as a hall plan: the outermost number of entries, and the entries in reading order; or the refusal and the place at which it is
-- malformed, 0 with refusal 5
pub data HallPlan : Type 0 where
  halls : ℕ → List Entry → HallPlan
  refused : ℕ → ℕ → HallPlan

abbrev pub malformed_halls : ℕ → HallPlan
malformed_halls place = refused malformed_plan place

-- nothing stands after the last entry
abbrev pub nothing_after : ℕ → Read ℕ → HallPlan
nothing_after outer (reached l next []) = halls outer l
nothing_after outer (reached l next (b ∷ rest)) = malformed_halls (place_of (bytes_after next))
nothing_after outer (breach place) = malformed_halls place

-- the entries of the outermost hall, after their number
abbrev pub with_outer : Parsed → HallPlan
with_outer (value n next rest) = nothing_after n (entries_of byte_head levels_below n next 0 rest)
with_outer (bad place) = malformed_halls place

unfoldable pub halls_of : List ℕ → HallPlan
halls_of s = cond (ltb max_plan (length s)) (refused input_too_long no_place) (with_outer (plan_number 0 s))
