-- Where a row is, from the answers of reading the chute's row in each plan.
use Rattle.std.proofs.Common.{◌≡◌, refl, sym, ap, arith, ℕ, ◌≤◌, List, Option, Result, Ok, Err}
use Rattle.std.specs.Prelude.{IfOk, ok_or}
use Rattle.std.specs.Option.{option_or}
use Rattle.answers.specs.declared.PlanRefusal.{PlanRefusal}
use Rattle.plan_read.specs.declared.Row.{Row}
use Rattle.plan.specs.Answers.{ChuteRow, chute_row_from, chute_row_of}
use Rattle.plan.specs.Laws.{found_in}
use Rattle.plan_pair.specs.Pair.{smaller_refusal, located, location_from, location, location_of}
use Rattle.plan_pair.specs.declared.Source.TheVariants.{Site, House}
use Rattle.plan_pair.specs.declared.RowLocation.{RowLocation}
use Rattle.plan_pair.specs.declared.PairRefusal.{PairRefusal}

-- a row that was found does not start past its end
pub row_ordered : (s : List ℕ) (chute : ℕ) (r : Result Row PlanRefusal) → chute_row_from r ≡ chute_row_of s chute → IfOk r (λ row. row.start ≤ row.end)
row_ordered s chute (Ok r) e =
    let i = found_in s chute (ap (λ (q : ChuteRow). q.number) (sym e)) in
    let same : r ≡ (chute_row_of s chute).row = ap (λ (q : ChuteRow). q.row) e in
    rw same (omega (arith, i.some))
row_ordered s chute (Err e) h = tt

abbrev Found : Type 0
Found = Result (Option RowLocation) PairRefusal

-- what was located in each of the two plans, together
abbrev both : Found → Found → Result RowLocation PairRefusal
both (Ok p) (Ok q) = ok_or (option_or p q) PairRefusal.NoSuchChute
both (Err e) (Ok q) = Err e
both (Ok p) (Err f) = Err f
both (Err e) (Err f) = Err (smaller_refusal e f)

both_lem : (a b : Result Row PlanRefusal) → location_from (both (located Site a) (located House b)) ≡ location (chute_row_from a) (chute_row_from b)
both_lem (Ok p) (Ok q) = refl
both_lem (Ok p) (Err PlanRefusal.TooLong) = refl
both_lem (Ok p) (Err (PlanRefusal.Malformed f)) = refl
both_lem (Ok p) (Err PlanRefusal.NoSuchChute) = refl
both_lem (Err PlanRefusal.TooLong) (Ok q) = refl
both_lem (Err PlanRefusal.TooLong) (Err PlanRefusal.TooLong) = refl
both_lem (Err PlanRefusal.TooLong) (Err (PlanRefusal.Malformed f)) = refl
both_lem (Err PlanRefusal.TooLong) (Err PlanRefusal.NoSuchChute) = refl
both_lem (Err (PlanRefusal.Malformed e)) (Ok q) = refl
both_lem (Err (PlanRefusal.Malformed e)) (Err PlanRefusal.TooLong) = refl
both_lem (Err (PlanRefusal.Malformed e)) (Err (PlanRefusal.Malformed f)) = refl
both_lem (Err (PlanRefusal.Malformed e)) (Err PlanRefusal.NoSuchChute) = refl
both_lem (Err PlanRefusal.NoSuchChute) (Ok q) = refl
both_lem (Err PlanRefusal.NoSuchChute) (Err PlanRefusal.TooLong) = refl
both_lem (Err PlanRefusal.NoSuchChute) (Err (PlanRefusal.Malformed f)) = refl
both_lem (Err PlanRefusal.NoSuchChute) (Err PlanRefusal.NoSuchChute) = refl

pub located_both : (site house : List ℕ) (chute : ℕ) (a b : Result Row PlanRefusal) → chute_row_from a ≡ chute_row_of site chute
    → chute_row_from b ≡ chute_row_of house chute → (x y : Found) → x ≡ located Site a → y ≡ located House b
    → location_from (both x y) ≡ location_of site house chute
unfolding location_of
located_both site house chute a b ea eb x y ex ey = rw (ex, ey, ← ea, ← eb) (both_lem a b)
