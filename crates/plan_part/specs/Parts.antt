-- The part that is returned, at every chute of every two plans: whose bytes it is, that it is as long as its location says, one to three bytes where a row was
-- found, and empty exactly on a refusal.
use Rattle.std.specs.Prelude.{ℕ, ◌≤◌, ◌≡◌, ◌↔◌, List, [], length, Some}
use Rattle.answers.specs.Numbers.{done, no_such_chute}
use Rattle.plan_read.specs.Places.{RowIn, bytes_of}
use Rattle.plan.specs.Answers.{chute_row_of}
use Rattle.plan_pair.specs.Pair.{Location, location_of}
use Rattle.plan_pair.specs.declared.Source.{Source}
use Rattle.plan_pair.specs.declared.Source.TheVariants.{Site, House}
use Rattle.plan_part.specs.Part.{part_of, row_bytes_of}

pub record PartAt (site house : List ℕ) (l : Location) : Type 0 where
  pub as_long : length (part_of site house l) ≡ l.length
  pub one_to_three : l.number ≡ done → (1 ≤ l.length) × (l.length ≤ 3)
  pub empty : (part_of site house l ≡ []) ↔ (l.number ≡ done → ⊥)

-- the part is the bytes of the chute's row in the plan s, which the location names: the row lies inside that plan, and its bytes alone read as its destination
pub record RowFrom (source : Source) (s site house : List ℕ) (chute : ℕ) : Type 0 where
  pub named : (location_of site house chute).source ≡ Some source
  pub bytes : row_bytes_of site house chute ≡ bytes_of (chute_row_of s chute).row s
  pub inside : RowIn s (chute_row_of s chute).row

pub record Parts (site house : List ℕ) (chute : ℕ) : Type 0 where
  pub part : PartAt site house (location_of site house chute)
  -- the part at a row's location is what `row_bytes` returns
  pub returned : row_bytes_of site house chute ≡ part_of site house (location_of site house chute)
  -- where neither plan is refused: the row of the site plan if it has the chute, else of the house plan
  pub of_site : (location_of site house chute).number ≡ done → (chute_row_of site chute).number ≡ done → RowFrom Site site site house chute
  pub of_house : (location_of site house chute).number ≡ done → ((chute_row_of site chute).number ≡ done → ⊥) → RowFrom House house site house chute
  -- and 10 exactly where neither has it
  pub neither : ((location_of site house chute).number ≡ no_such_chute)
      ↔ (((chute_row_of site chute).number ≡ no_such_chute) × ((chute_row_of house chute).number ≡ no_such_chute))

abbrev pub RowParts : Type 0
RowParts = (site house : List ℕ) (chute : ℕ) → Parts site house chute
