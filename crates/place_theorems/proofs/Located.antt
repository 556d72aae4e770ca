-- Where a chute's row is in two plans, without the place: the plan that is malformed plays no part.
use mathlib.Core.Path.{◌≡◌, refl, sym, ap, ◌∙◌}
use mathlib.Core.List.{List}
use mathlib.Core.Bool.{Bool, true, false, cond}
use Prim.Native.Nat.{ℕ}
use lib.ListN.{length}
use lib.Dec.{eqb}
use borrow.Author.Tests.{eqb-true}
use Rattle.answers.specs.Numbers.{done, malformed_plan, no_such_chute}
use Rattle.answers.specs.Breaches.{no_place}
use Rattle.plan_read.specs.Plan.{Plan, rows, refused, plan_of, row_at}
use Rattle.plan_read.specs.declared.Row.{Row}
use Rattle.plan.specs.Answers.{ChuteRow, has_chute, row_found, no_chute_row, chute_row, chute_row_of}
use Rattle.plan_pair.specs.Pair.{Location, location_in, no_location, malformed_in, plans_refusal, location_found, plans_refused, location, location_of}
use Rattle.plan_pair.specs.declared.Source.TheVariants.{Site, House}
use Rattle.place_theorems.specs.Without.{row_without, row_by, Located, location_without, found_by, nowhere_by, location_by}

-- a function of one of two values
pub of_cond : {A B : Type 0} (f : A → B) (t : Bool) (x y : A) → f (cond t x y) ≡ cond t (f x) (f y)
of_cond f true x y = refl
of_cond f false x y = refl

pub row_without_lem : (s : List ℕ) (chute : ℕ) → row_without (chute_row_of s chute) ≡ row_by chute (plan_of s)
unfolding chute_row_of
row_without_lem s chute = go (plan_of s)
  where
    go : (p : Plan) → row_without (chute_row chute p) ≡ row_by chute p
    go (rows l) = of_cond row_without (has_chute (length l) chute) (row_found (row_at chute l)) (no_chute_row no_such_chute no_place)
    go (refused n place) = refl

module _ (s h : ChuteRow) where
  -- a refusal of the plans, whichever it names
  refused_without : (n : ℕ) → location_without (plans_refused n s h) ≡ nowhere_by n
  refused_without n = go (eqb n malformed_plan) (eqb s.number malformed_plan) refl
    where
      go : (t u : Bool) → eqb n malformed_plan ≡ t
          → location_without (cond t (cond u (malformed_in Site s.place) (malformed_in House h.place)) (no_location n)) ≡ nowhere_by n
      go true true e = ap nowhere_by (sym (eqb-true n malformed_plan e))
      go true false e = ap nowhere_by (sym (eqb-true n malformed_plan e))
      go false u e = refl

  found_without : (t u : Bool) (a b c : Location)
      → location_without (cond t a (cond u b c)) ≡ cond t (location_without a) (cond u (location_without b) (location_without c))
  found_without true u a b c = refl
  found_without false true a b c = refl
  found_without false false a b c = refl

  whole_without : location_without (location s h) ≡ location_by (row_without s) (row_without h)
  whole_without = go (eqb (plans_refusal s h) done)
    where
      located : Located
      located =
          cond (eqb s.number done) (found_by Site s.row) (cond (eqb h.number done) (found_by House h.row) (nowhere_by no_such_chute))

      go : (t : Bool)
          → location_without (cond t (location_found s h) (plans_refused (plans_refusal s h) s h)) ≡ cond t located (nowhere_by (plans_refusal s h))
      go true =
          found_without (eqb s.number done) (eqb h.number done) (location_in Site s.row) (location_in House h.row) (no_location no_such_chute)
      go false = refused_without (plans_refusal s h)

pub location_without_lem : (site house : List ℕ) (chute : ℕ)
    → location_without (location_of site house chute) ≡ location_by (row_by chute (plan_of site)) (row_by chute (plan_of house))
unfolding location_of
location_without_lem site house chute =
    whole_without (chute_row_of site chute) (chute_row_of house chute)
    ∙ ap (λ (a : ℕ × Row). location_by a (row_without (chute_row_of house chute))) (row_without_lem site chute)
    ∙ ap (location_by (row_by chute (plan_of site))) (row_without_lem house chute)
