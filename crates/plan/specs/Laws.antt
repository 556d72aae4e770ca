-- Laws of the questions on one plan: of a plan that is not refused, reading, rows and lookups agree with the list of its rows at every chute, and a row that
-- is found lies inside the plan.
use Rattle.std.specs.Prelude.{◌≡◌, refl, List, Bool, true, false, cond, ◌&&◌, get_or, ltb, leb}
use Rattle.std.proofs.Common.{sym, ◌∙◌}
use Rattle.std.proofs.Math.Path.{ap}
use Prim.Native.Nat.{ℕ, zero, suc, ◌≤◌, ◌<◌}
use native.Mathlib.Omega.{arith}
use Rattle.std.proofs.Math.ListN.{length, get_or-map}
use Rattle.std.proofs.lemmas.List.{length-map}
use borrow.Author.Tests.{le-leb, lt-leb, leb-true, ltb-true, ltb-false}
use Rattle.answers.specs.Numbers.{done, no_such_chute}
use Rattle.answers.specs.Breaches.{no_place}
use Rattle.plan_read.specs.Plan.{Plan, rows, refused, plan_of, no_row, row_destinations}
use Rattle.plan_read.specs.Places.{RowIn}
use Rattle.plan_read.specs.Laws.Rows.{RowsIn, plan_in_lem}
use Rattle.plan_read.specs.Laws.Refusals.{Numbered, plan_numbered}
use Rattle.plan_read.specs.declared.Row.{Row}
use Rattle.plan.specs.Answers.{
  summary_of,
  has_chute,
  row_found,
  no_chute_row,
  chute_row,
  chute_row_of,
  destination_of,
  found_destination,
  no_destination,
  lookup_of,
  lookup_in,
}
use Rattle.plan.specs.declared.Lookup.{Lookup}

module _ (s : List ℕ) (l : List Row) (e : plan_of s ≡ rows l) where
  pub chute_row_lem : (c : ℕ) → c < length l → chute_row_of s (suc c) ≡ row_found (get_or l c no_row)
  unfolding chute_row_of
  chute_row_lem c h =
      let one : 1 ≤ suc c = omega arith in
      let some : suc c ≤ length l = omega arith in
      rw (e, le-leb 1 (suc c) one, le-leb (suc c) (length l) some)

  pub chute_zero : chute_row_of s 0 ≡ no_chute_row no_such_chute no_place
  unfolding chute_row_of
  chute_zero = rw e

  pub chute_past : (c : ℕ) → length l < c → chute_row_of s c ≡ no_chute_row no_such_chute no_place
  unfolding chute_row_of
  chute_past c h = let one : 1 ≤ c = omega arith in rw (e, le-leb 1 c one, lt-leb _ _ h)

  pub lookup_row : (c : ℕ) → c < length l → lookup_of s (suc c) ≡ found_destination (get_or l c no_row).destination
  unfolding lookup_of
  lookup_row c h = ap destination_of (chute_row_lem c h)

  pub lookup_zero : lookup_of s 0 ≡ no_destination no_such_chute no_place
  unfolding lookup_of
  lookup_zero = ap destination_of chute_zero

  pub lookup_past : (c : ℕ) → length l < c → lookup_of s c ≡ no_destination no_such_chute no_place
  unfolding lookup_of
  lookup_past c h = ap destination_of (chute_past c h)

  -- at every chute, as the list of destinations has it
  pub lookup_rows : (chute : ℕ) → lookup_of s chute ≡ lookup_in (row_destinations l) chute
  lookup_rows zero = lookup_zero
  lookup_rows (suc c) = go (ltb c (length (row_destinations l))) refl
    where
      same : length (row_destinations l) ≡ length l
      same = length-map l (λ (r : Row). r.destination)

      go : (t : Bool) → ltb c (length (row_destinations l)) ≡ t
          → lookup_of s (suc c) ≡ cond {A = Lookup} t (found_destination (get_or (row_destinations l) c 0)) (no_destination no_such_chute no_place)
      go true h =
          let some : c < length (row_destinations l) = ltb-true _ _ h in
          lookup_row c (omega (arith, same)) ∙ ap found_destination (sym (get_or-map (λ (r : Row). r.destination) l c no_row))
      go false h = let none : length (row_destinations l) ≤ c = ltb-false _ _ h in lookup_past (suc c) (omega (arith, same))

  pub count_rows : summary_of s ≡ record { number = done; rows = length l; place = no_place }
  unfolding summary_of
  count_rows = rw e

-- what it says that a plan has a chute
pub has_chute_lem : (n chute : ℕ) → has_chute n chute ≡ true → (1 ≤ chute) × (chute ≤ n)
has_chute_lem n chute e = go (leb 1 chute) (leb chute n) refl refl e
  where
    go : (a b : Bool) → leb 1 chute ≡ a → leb chute n ≡ b → (a && b) ≡ true → (1 ≤ chute) × (chute ≤ n)
    go true true p q e = (leb-true _ _ p, leb-true _ _ q)
    go true false p q e = let z : ◌≡◌ {A = ℕ} 0 1 = cc in absurd (omega arith)
    go false b p q e = let z : ◌≡◌ {A = ℕ} 0 1 = cc in absurd (omega arith)

-- the row of a chute that the plan has lies inside it
pub found_in : (s : List ℕ) (chute : ℕ) → (chute_row_of s chute).number ≡ done → RowIn s (chute_row_of s chute).row
unfolding chute_row_of
found_in s chute z = go chute (plan_of s) (plan_in_lem s) (plan_numbered s) z
  where
    pick : (n c : ℕ) (r : Row) (t : Bool) → has_chute n (suc c) ≡ t → ((suc c ≤ n) → RowIn s r)
        → (cond t (row_found r) (no_chute_row no_such_chute no_place)).number ≡ done → RowIn s (cond t (row_found r) (no_chute_row no_such_chute no_place)).row
    pick n c r true h i z = i (has_chute_lem n (suc c) h).1
    pick n c r false h i z = absurd (omega arith)

    go : (chute : ℕ) (p : Plan) → RowsIn s p → Numbered p → (chute_row chute p).number ≡ done
        → RowIn s (chute_row chute p).row
    go zero (rows l) a u z = absurd (omega arith)
    go (suc c) (rows l) a u z = pick (length l) c (get_or l c no_row) (has_chute (length l) (suc c)) refl (λ h. a c (omega arith)) z
    go chute (refused n place) a u z = absurd (omega arith)
