-- Which of two plans an answer names: by the number of the chute's row in each, of which there are four.
use mathlib.Core.Path.{◌≡◌, refl, ap, ◌∙◌}
use mathlib.Core.Logic.{◌⊎◌, inl, inr}
use mathlib.Core.List.{List}
use mathlib.Core.Bool.{Bool, true, false, cond}
use Prim.Native.Nat.{ℕ}
use native.Mathlib.Omega.{arith}
use lib.ListN.{length}
use Rattle.std.specs.Prelude.{None}
use lib.Dec.{eqb}
use Rattle.answers.specs.Numbers.{done, input_too_long, malformed_plan, no_such_chute}
use Rattle.answers.specs.Breaches.{no_place}
use Rattle.plan_read.specs.Plan.{Plan, rows, refused, plan_of, row_at}
use Rattle.plan.specs.Answers.{ChuteRow, has_chute, row_found, no_chute_row, summary, summary_of, chute_row, chute_row_of}
use Rattle.plan_pair.specs.Pair.{Location, location_in, no_location, malformed_in, plan_refusal, smaller_of, location, location_of}
use Rattle.plan_pair.specs.declared.Source.TheVariants.{Site, House}
use Rattle.place_theorems.specs.PlaceTheorems.{PairPlaces}
use Rattle.place_theorems.proofs.Plans.{Placed, plan_placed, read_place}

-- the number of a chute's row, beside that of reading its plan
data RowNumber (read row : ℕ) : Type 0 where
  found : read ≡ done → row ≡ done → RowNumber read row
  missing : read ≡ done → row ≡ no_such_chute → RowNumber read row
  long : read ≡ input_too_long → row ≡ input_too_long → RowNumber read row
  bad : read ≡ malformed_plan → row ≡ malformed_plan → RowNumber read row

row_number : (s : List ℕ) (chute : ℕ) → RowNumber (summary_of s).number (chute_row_of s chute).number
unfolding summary_of chute_row_of
row_number s chute = go (plan_of s) (plan_placed s)
  where
    pick : (t : Bool) (r : ChuteRow) → r.number ≡ done → RowNumber done (cond t r (no_chute_row no_such_chute no_place)).number
    pick true r e = found refl e
    pick false r e = missing refl refl

    go : (p : Plan) → Placed (length s) p → RowNumber (summary p).number (chute_row chute p).number
    go (rows l) u = pick (has_chute (length l) chute) (row_found (row_at chute l)) refl
    go (refused n place) (inl u) = long u.0 u.0
    go (refused n place) (inr u) = bad u.0 u.0

-- every answer on one plan has its place
pub row_place : (s : List ℕ) (chute : ℕ) → (chute_row_of s chute).place ≡ (summary_of s).place
unfolding summary_of chute_row_of
row_place s chute = go (plan_of s)
  where
    pick : (t : Bool) (r : ChuteRow) → r.place ≡ no_place → (cond t r (no_chute_row no_such_chute no_place)).place ≡ no_place
    pick true r e = e
    pick false r e = refl

    go : (p : Plan) → (chute_row chute p).place ≡ (summary p).place
    go (rows l) = pick (has_chute (length l) chute) (row_found (row_at chute l)) refl
    go (refused n place) = refl

module _ (s h : ChuteRow) where
  -- the location, by the numbers of the two rows
  abbrev by_numbers : ℕ → ℕ → Location
  by_numbers n m =
      let r = smaller_of (plan_refusal n) (plan_refusal m) in
      cond (eqb r done) (cond (eqb n done) (location_in Site s.row) (cond (eqb m done) (location_in House h.row) (no_location no_such_chute)))
      (cond (eqb r malformed_plan) (cond (eqb n malformed_plan) (malformed_in Site s.place) (malformed_in House h.place)) (no_location r))

  -- which plan it names, beside the numbers a and b of reading the two plans
  data Named (a b : ℕ) (l : Location) : Type 0 where
    site : a ≡ malformed_plan → (b ≡ input_too_long → ⊥) → l ≡ malformed_in Site s.place → Named a b l
    house : a ≡ done → b ≡ malformed_plan → l ≡ malformed_in House h.place → Named a b l
    none : (l.number ≡ malformed_plan → ⊥) → l.malformed ≡ None → l.place ≡ no_place
        → (a ≡ input_too_long) ⊎ ((b ≡ input_too_long) ⊎ ((a ≡ done) × (b ≡ done))) → Named a b l

  named : (a b n m : ℕ) → RowNumber a n → RowNumber b m → Named a b (by_numbers n m)
  named a b n m (found p e) (found q f) = rw (e, f) (none (λ z. omega arith) refl refl (inr (inr (p, q))))
  named a b n m (found p e) (missing q f) = rw (e, f) (none (λ z. omega arith) refl refl (inr (inr (p, q))))
  named a b n m (missing p e) (found q f) = rw (e, f) (none (λ z. omega arith) refl refl (inr (inr (p, q))))
  named a b n m (missing p e) (missing q f) = rw (e, f) (none (λ z. omega arith) refl refl (inr (inr (p, q))))
  named a b n m (long p e) (found q f) = rw (e, f) (none (λ z. omega arith) refl refl (inl p))
  named a b n m (long p e) (missing q f) = rw (e, f) (none (λ z. omega arith) refl refl (inl p))
  named a b n m (long p e) (long q f) = rw (e, f) (none (λ z. omega arith) refl refl (inl p))
  named a b n m (long p e) (bad q f) = rw (e, f) (none (λ z. omega arith) refl refl (inl p))
  named a b n m (found p e) (long q f) = rw (e, f) (none (λ z. omega arith) refl refl (inr (inl q)))
  named a b n m (missing p e) (long q f) = rw (e, f) (none (λ z. omega arith) refl refl (inr (inl q)))
  named a b n m (bad p e) (long q f) = rw (e, f) (none (λ z. omega arith) refl refl (inr (inl q)))
  named a b n m (found p e) (bad q f) = rw (e, f) (house p q refl)
  named a b n m (missing p e) (bad q f) = rw (e, f) (house p q refl)
  named a b n m (bad p e) (found q f) = rw (e, f) (site p (λ z. omega arith) refl)
  named a b n m (bad p e) (missing q f) = rw (e, f) (site p (λ z. omega arith) refl)
  named a b n m (bad p e) (bad q f) = rw (e, f) (site p (λ z. omega arith) refl)

pub pair_places : (site house : List ℕ) (chute : ℕ) → PairPlaces site house (location_of site house chute)
unfolding location_of
pair_places s h chute =
    go (location (chute_row_of s chute) (chute_row_of h chute))
    (named (chute_row_of s chute) (chute_row_of h chute) (summary_of s).number (summary_of h).number _ _ (row_number s chute) (row_number h chute))
  where
    go : (l : Location) → Named (chute_row_of s chute) (chute_row_of h chute) (summary_of s).number (summary_of h).number l → PairPlaces s h l
    go l (site a b e) =
        record {
          malformed = ((λ z. ((λ q. omega (arith, a, q)), (b, inl a))), (λ z. ap (λ (x : Location). x.number) e));
          site_first = λ z q. (ap (λ (x : Location). x.malformed) e, ap (λ (x : Location). x.place) e ∙ row_place s chute);
          else_house = λ z q. absurd (q a);
          neither = λ z. absurd (z (ap (λ (x : Location). x.number) e));
          within = rw (e, row_place s chute) (read_place s).within;
        }
    go l (house a b e) =
        record {
          malformed = ((λ z. ((λ q. omega (arith, a, q)), ((λ q. omega (arith, b, q)), inr b))), (λ z. ap (λ (x : Location). x.number) e));
          site_first = λ z q. absurd (omega (arith, a, q));
          else_house = λ z q. (ap (λ (x : Location). x.malformed) e, ap (λ (x : Location). x.place) e ∙ row_place h chute);
          neither = λ z. absurd (z (ap (λ (x : Location). x.number) e));
          within = rw (e, row_place h chute) (read_place h).within;
        }
    go l (none n m place why) =
        record {
          malformed = ((λ z. absurd (n z)), (λ z. absurd (no why z)));
          site_first = λ z q. absurd (n z);
          else_house = λ z q. absurd (n z);
          neither = λ z. (m, place);
          within = rw place (omega arith);
        }
      where
        no : ((summary_of s).number ≡ input_too_long)
            ⊎ (((summary_of h).number ≡ input_too_long) ⊎ (((summary_of s).number ≡ done) × ((summary_of h).number ≡ done)))
            → ((summary_of s).number ≡ input_too_long → ⊥)
            × (((summary_of h).number ≡ input_too_long → ⊥) × (((summary_of s).number ≡ malformed_plan) ⊎ ((summary_of h).number ≡ malformed_plan))) → ⊥
        no (inl e) z = z.0 e
        no (inr (inl e)) z = z.1.0 e
        no (inr (inr e)) (p, (q, inl f)) = omega (arith, e.0, f)
        no (inr (inr e)) (p, (q, inr f)) = omega (arith, e.1, f)
