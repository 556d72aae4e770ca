-- A site plan and a house plan lent together (docs/RULES.md, 'Chute plan'): where the row of a chute is, in the site plan if it has that chute, else in the
-- house plan. The answer follows from the chute's row in each plan. Where it is 9, it names the first malformed plan, the site plan being read first, and has
-- the place in that one.
use Rattle.std.specs.Prelude.{ℕ, ◌-◌, List, cond, leb, eqb, Option, Some, None, Result, Ok, Err}
use Rattle.answers.specs.Numbers.{done, input_too_long, malformed_plan, no_such_chute}
use Rattle.answers.specs.Breaches.{no_place}
use Rattle.answers.specs.declared.PlanRefusal.{PlanRefusal}
use Rattle.plan_read.specs.declared.Row.{Row}
use Rattle.plan.specs.Answers.{ChuteRow, chute_row_of}
use Rattle.plan_pair.specs.declared.Source.{Source}
use Rattle.plan_pair.specs.declared.Source.TheVariants.{Site, House}
use Rattle.plan_pair.specs.declared.RowLocation.{RowLocation}
use Rattle.plan_pair.specs.declared.PairRefusal.{PairRefusal}

-- where the bytes of a row are: 0 or the refusal's number, the plan that they are a part of, where they start in it and how many they are; with 9 the plan
-- that is malformed, and the place in it
pub record Location : Type 0 where
  pub number : ℕ
  pub source : Option Source
  pub start : ℕ
  pub length : ℕ
  pub malformed : Option Source
  pub place : ℕ

abbrev pub location_in : Source → Row → Location
location_in source r = record { number = done; source = Some source; start = r.start; length = r.end - r.start; malformed = None; place = no_place }

-- a refusal, the plan that is malformed, and the place in it
abbrev pub refused_location : ℕ → Option Source → ℕ → Location
refused_location n plan place = record { number = n; source = None; start = 0; length = 0; malformed = plan; place = place }

abbrev pub no_location : ℕ → Location
no_location n = refused_location n None no_place

abbrev pub malformed_in : Source → ℕ → Location
malformed_in plan place = refused_location malformed_plan (Some plan) place

-- the same from the code's answer
abbrev pub pair_refusal_number : PairRefusal → ℕ
pair_refusal_number PairRefusal.TooLong = input_too_long
pair_refusal_number (PairRefusal.Malformed plan place) = malformed_plan
pair_refusal_number PairRefusal.NoSuchChute = no_such_chute

abbrev pub pair_refusal_plan : PairRefusal → Option Source
pair_refusal_plan PairRefusal.TooLong = None
pair_refusal_plan (PairRefusal.Malformed plan place) = Some plan
pair_refusal_plan PairRefusal.NoSuchChute = None

abbrev pub pair_refusal_place : PairRefusal → ℕ
pair_refusal_place PairRefusal.TooLong = no_place
pair_refusal_place (PairRefusal.Malformed plan place) = place
pair_refusal_place PairRefusal.NoSuchChute = no_place

abbrev pub location_from : Result RowLocation PairRefusal → Location
location_from (Ok l) = record { number = done; source = Some l.source; start = l.start; length = l.length; malformed = None; place = no_place }
location_from (Err e) = refused_location (pair_refusal_number e) (pair_refusal_plan e) (pair_refusal_place e)

-- of the refusals of two plans the smaller, and where both are malformed the site plan's
abbrev pub smaller_refusal : PairRefusal → PairRefusal → PairRefusal
smaller_refusal of_site PairRefusal.TooLong = PairRefusal.TooLong
smaller_refusal of_site (PairRefusal.Malformed plan place) = of_site
smaller_refusal of_site PairRefusal.NoSuchChute = of_site

-- a row that was read from one of the two plans, if that has it
abbrev pub located : Source → Result Row PlanRefusal → Result (Option RowLocation) PairRefusal
located source (Ok r) = Ok (Some (record { source = source; start = r.start; length = r.end - r.start }))
located source (Err PlanRefusal.NoSuchChute) = Ok None
located source (Err (PlanRefusal.Malformed e)) = Err (PairRefusal.Malformed source e.place)
located source (Err PlanRefusal.TooLong) = Err PairRefusal.TooLong

-- a plan's own refusal: none where the plan was read, be it without the chute
abbrev pub plan_refusal : ℕ → ℕ
plan_refusal n = cond (eqb n no_such_chute) done n

-- of two refusals, either of which is none where it is 0, the smaller
abbrev pub smaller_of : ℕ → ℕ → ℕ
smaller_of a b = cond (eqb a done) b (cond (eqb b done) a (cond (leb a b) a b))

abbrev pub plans_refusal : ChuteRow → ChuteRow → ℕ
plans_refusal site house = smaller_of (plan_refusal site.number) (plan_refusal house.number)

-- two plans that are not refused: the row of the site plan, else of the house plan, else 10
abbrev pub location_found : ChuteRow → ChuteRow → Location
location_found site house =
    cond (eqb site.number done) (location_in Site site.row)
    (cond (eqb house.number done) (location_in House house.row) (no_location no_such_chute))

-- of two plans, one of which is malformed, the first that is
abbrev pub first_malformed : ChuteRow → ChuteRow → Location
first_malformed site house = cond (eqb site.number malformed_plan) (malformed_in Site site.place) (malformed_in House house.place)

-- two plans with the refusal n
abbrev pub plans_refused : ℕ → ChuteRow → ChuteRow → Location
plans_refused n site house = cond (eqb n malformed_plan) (first_malformed site house) (no_location n)

-- the plans' refusals come before the chute's
abbrev pub location : ChuteRow → ChuteRow → Location
location site house = cond (eqb (plans_refusal site house) done) (location_found site house) (plans_refused (plans_refusal site house) site house)

unfoldable pub location_of : List ℕ → List ℕ → ℕ → Location
location_of site house chute = location (chute_row_of site chute) (chute_row_of house chute)
