-- The part at every location, by the chute's row in each plan: a row that was found lies inside its plan and has one to three bytes, and a refusal of the
-- plans is neither 0 nor 10.
use mathlib.Core.Path.{◌≡◌, refl, sym, ap, ◌∙◌}
use mathlib.Core.List.{List}
use mathlib.Core.Bool.{Bool, true, false, cond}
use Prim.Native.Nat.{ℕ, ◌-◌, ◌≤◌}
use native.Mathlib.Omega.{arith}
use denote.Ref.{Bor}
use Rattle.std.specs.Prelude.{Option, Some, None, Result, Ok, Err}
use Rattle.std.specs.Result.{result_ok}
use Rattle.plan_pair.specs.declared.RowLocation.{RowLocation}
use Rattle.plan_pair.specs.declared.PairRefusal.{PairRefusal}
use lib.ListN.{length, length-take, length-drop}
use lib.Dec.{leb, eqb}
use borrow.Author.Tests.{le-leb, eqb-true, eqb-false}
use Rattle.answers.specs.Numbers.{done, malformed_plan, no_such_chute}
use Rattle.answers.specs.Breaches.{no_place}
use Rattle.plan_read.specs.Places.{RowIn, bytes_of}
use Rattle.plan_read.specs.declared.Row.{Row}
use Rattle.plan.specs.Answers.{ChuteRow, chute_row_of}
use Rattle.plan.specs.Laws.{found_in}
use Rattle.plan_pair.specs.Pair.{
  Location,
  location_in,
  refused_location,
  no_location,
  malformed_in,
  plan_refusal,
  smaller_of,
  plans_refusal,
  plans_refused,
  location,
  location_from,
  location_of,
}
use Rattle.plan_pair.specs.declared.Source.{Source}
use Rattle.plan_pair.specs.declared.Source.TheVariants.{Site, House}
use Rattle.plan_part.specs.Part.{part_from, part_of, part_at, address_of, address_at, row_bytes_of}
use Rattle.plan_part.specs.Parts.{PartAt, RowParts}

-- the part at the code's answer is the part at the location that it makes, and so is where it stands
pub part_answered : (site house : List ℕ) (r : Result RowLocation PairRefusal) → part_at site house (result_ok r) ≡ part_of site house (location_from r)
part_answered site house (Ok l) = refl
part_answered site house (Err e) = refl

pub address_answered : (site house : Bor (List ℕ)) (r : Result RowLocation PairRefusal)
    → address_at site house (result_ok r) ≡ address_of site house (location_from r)
address_answered site house (Ok l) = refl
address_answered site house (Err e) = refl

-- a row that lies inside a plan: the part at its location is its bytes
part_row : (s : List ℕ) (r : Row) → RowIn s r → part_from s r.start (r.end - r.start) ≡ bytes_of r s
part_row s r i =
    let a : r.start ≤ length s = omega (arith, i.some, i.inside) in
    let b : r.end - r.start ≤ length s - r.start = omega (arith, i.some, i.inside) in
    rw (le-leb _ _ a, le-leb _ _ b)

row_length : (s : List ℕ) (r : Row) → RowIn s r → length (bytes_of r s) ≡ r.end - r.start
row_length s r i = simp (length-take, length-drop) (omega (arith, i.some, i.inside))

-- a plan's refusal is never 10; and none says that the plan was read
refusal_plan : (n : ℕ) → (plan_refusal n ≡ no_such_chute → ⊥) × (plan_refusal n ≡ done → (n ≡ done → ⊥) → n ≡ no_such_chute)
refusal_plan n = go (eqb n no_such_chute) refl
  where
    go : (t : Bool) → eqb n no_such_chute ≡ t
        → (cond t done n ≡ no_such_chute → ⊥) × (cond t done n ≡ done → (n ≡ done → ⊥) → n ≡ no_such_chute)
    go true e = ((λ z. omega arith), (λ z h. eqb-true _ _ e))
    go false e = ((λ z. eqb-false _ _ e z), (λ z h. absurd (h z)))

-- the smaller of two refusals is one of them, and none where both are
smaller_one : (a b : ℕ) → (a ≡ no_such_chute → ⊥) → (b ≡ no_such_chute → ⊥)
    → (smaller_of a b ≡ no_such_chute → ⊥) × (smaller_of a b ≡ done → (a ≡ done) × (b ≡ done))
smaller_one a b ha hb = go (eqb a done) (eqb b done) (leb a b) refl refl
  where
    go : (p q t : Bool) → eqb a done ≡ p → eqb b done ≡ q
        → (cond p b (cond q a (cond t a b)) ≡ no_such_chute → ⊥) × (cond p b (cond q a (cond t a b)) ≡ done → (a ≡ done) × (b ≡ done))
    go true q t ea eb = (hb, (λ z. (eqb-true _ _ ea, z)))
    go false true t ea eb = (ha, (λ z. (z, eqb-true _ _ eb)))
    go false false true ea eb = (ha, (λ z. absurd (eqb-false _ _ ea z)))
    go false false false ea eb = (hb, (λ z. absurd (eqb-false _ _ eb z)))

module _ (s h : ChuteRow) where
  plans_known : (plans_refusal s h ≡ no_such_chute → ⊥) × (plans_refusal s h ≡ done → (plan_refusal s.number ≡ done) × (plan_refusal h.number ≡ done))
  plans_known =
      smaller_one (plan_refusal s.number) (plan_refusal h.number) (refusal_plan s.number).0 (refusal_plan h.number).0

  -- the cases of a location, each a place where a proof goes on
  by_case : (P : Location → Type 0)
      → ((n : ℕ) (malformed : Option Source) (place : ℕ) → n ≡ plans_refusal s h → (n ≡ done → ⊥) → P (refused_location n malformed place))
      → (s.number ≡ done → P (location_in Site s.row))
      → ((s.number ≡ done → ⊥) → h.number ≡ done → P (location_in House h.row))
      → (s.number ≡ no_such_chute → h.number ≡ no_such_chute → P (no_location no_such_chute))
      → P (location s h)
  by_case P refused site house none =
      go (eqb (plans_refusal s h) done) (eqb s.number done) (eqb h.number done) refl refl refl
    where
      go : (a b c : Bool) → eqb (plans_refusal s h) done ≡ a → eqb s.number done ≡ b → eqb h.number done ≡ c
          → P (cond a (cond b (location_in Site s.row) (cond c (location_in House h.row) (no_location no_such_chute))) (plans_refused (plans_refusal s h) s h))
      go true true c ea eb ec = site (eqb-true _ _ eb)
      go true false true ea eb ec = house (eqb-false _ _ eb) (eqb-true _ _ ec)
      go true false false ea eb ec =
          let k = plans_known.1 (eqb-true _ _ ea) in
          none ((refusal_plan s.number).1 k.0 (eqb-false _ _ eb)) ((refusal_plan h.number).1 k.1 (eqb-false _ _ ec))
      go false b c ea eb ec = named (eqb (plans_refusal s h) malformed_plan) (eqb s.number malformed_plan) refl
        where
          some : plans_refusal s h ≡ done → ⊥
          some = eqb-false _ _ ea

          named : (t u : Bool) → eqb (plans_refusal s h) malformed_plan ≡ t
              → P (cond t (cond u (malformed_in Site s.place) (malformed_in House h.place)) (no_location (plans_refusal s h)))
          named true true e = refused _ (Some Site) s.place (sym (eqb-true _ _ e)) (λ z. omega arith)
          named true false e = refused _ (Some House) h.place (sym (eqb-true _ _ e)) (λ z. omega arith)
          named false u e = refused _ None no_place refl some

module _ (site house : List ℕ) (chute : ℕ) where
  abbrev s : ChuteRow
  s = chute_row_of site chute

  abbrev h : ChuteRow
  h = chute_row_of house chute

  refused_part : (n : ℕ) (malformed : Option Source) (place : ℕ) → (n ≡ done → ⊥) → PartAt site house (refused_location n malformed place)
  refused_part n malformed place z =
      record {
        as_long = refl;
        one_to_three = λ e. absurd (z e);
        empty = ((λ e. z), (λ k. refl));
      }

  -- a row of one of the two plans
  found_part : (source : Source) (p : List ℕ) (r : Row) → RowIn p r → part_of site house (location_in source r) ≡ bytes_of r p
      → PartAt site house (location_in source r)
  found_part source p r i e =
      let long : length (part_of site house (location_in source r)) ≡ r.end - r.start = ap length e ∙ row_length p r i in
      record {
        as_long = long;
        one_to_three = λ z. (omega (arith, i.some), omega (arith, i.at_most_three));
        empty = ((λ n z. omega (arith, i.some, sym long ∙ ap length n)), (λ z. absurd (z refl)));
      }

  whole_part : PartAt site house (location s h)
  whole_part =
      by_case s h (PartAt site house) (λ n m place e z. refused_part n m place z)
      (λ e. let i = found_in site chute e in found_part Site site s.row i (part_row site s.row i))
      (λ z e. let i = found_in house chute e in found_part House house h.row i (part_row house h.row i))
      (λ e f. refused_part no_such_chute None no_place (λ z. omega arith))

  -- whose bytes: by the location's cases
  abbrev Whose : Location → Type 0
  Whose l =
      (l.number ≡ done → s.number ≡ done → (l.source ≡ Some Site) × (part_of site house l ≡ bytes_of s.row site))
      × (l.number ≡ done → (s.number ≡ done → ⊥) → (h.number ≡ done) × ((l.source ≡ Some House) × (part_of site house l ≡ bytes_of h.row house)))

  whose : Whose (location s h)
  whose =
      by_case s h Whose (λ n m place r z. ((λ e. absurd (z e)), (λ e. absurd (z e))))
      (λ e. ((λ d f. (refl, part_row site s.row (found_in site chute e))), (λ d z. absurd (z e))))
      (λ z e. ((λ d f. absurd (z f)), (λ d k. (e, (refl, part_row house h.row (found_in house chute e))))))
      (λ e f. ((λ d. absurd (omega arith)), (λ d. absurd (omega arith))))

  neither : ((location s h).number ≡ no_such_chute → (s.number ≡ no_such_chute) × (h.number ≡ no_such_chute))
      × ((s.number ≡ no_such_chute) × (h.number ≡ no_such_chute) → (location s h).number ≡ no_such_chute)
  neither =
      by_case s h
      (λ l. (l.number ≡ no_such_chute → (s.number ≡ no_such_chute) × (h.number ≡ no_such_chute))
      × ((s.number ≡ no_such_chute) × (h.number ≡ no_such_chute) → l.number ≡ no_such_chute))
      (λ n m place r z. ((λ e. absurd ((plans_known s h).0 (sym r ∙ e))), (λ b. absurd (z (r ∙ rw (b.0, b.1))))))
      (λ e. ((λ d. absurd (omega arith)), (λ b. absurd (omega (arith, e, b.0)))))
      (λ z e. ((λ d. absurd (omega arith)), (λ b. absurd (omega (arith, e, b.1)))))
      (λ e f. ((λ d. (e, f)), (λ b. refl)))

pub row_parts : RowParts
unfolding location_of row_bytes_of
row_parts site house chute =
    let w = whose site house chute in
    record {
      part = whole_part site house chute;
      returned = refl;
      of_site = λ d e. record { named = (w.0 d e).0; bytes = (w.0 d e).1; inside = found_in site chute e };
      of_house = λ d z. let k = w.1 d z in record { named = k.1.0; bytes = k.1.1; inside = found_in house chute k.0 };
      neither = neither site house chute;
    }
