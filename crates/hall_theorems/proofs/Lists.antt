-- Every hall within the limits is one that two lists may hold: the check of the lists passes over all its entries.
use mathlib.Core.Path.{◌≡◌, refl, sym, ap, ◌∙◌}
use mathlib.Core.List.{List, [], ◌∷◌, ◌++◌, append_assoc, append-nil}
use mathlib.Core.Bool.{true}
use Prim.Native.Nat.{ℕ, zero, suc, ◌+◌, ◌≤◌, ◌<◌}
use native.Mathlib.Nat.{le_trans, le-max_left, le-max_right}
use native.Mathlib.Omega.{arith}
use lib.ListN.{length, length-append, length-map}
use borrow.Author.Tests.{lt-ltb, le-leb, eq-eqb}
use Rattle.hall_entry.specs.Limits.{max_chutes, levels_below}
use Rattle.hall_entry.specs.Entries.{Entry, chute_kind, hall_kind, kinds_of, values_of, reached, entries_with, inner_of, entries_of}
use Rattle.hall_entry.specs.Laws.Induction.{chute_destinations, hall_destinations}
use Rattle.hall_check.specs.Lists.{pairs, list_head, halls_allowed, lists_allowed}
use Rattle.hall_theorems.specs.Tree.{Hall, none, chute, inner, count, listed, destinations_of, levels_of, NumbersFit, HallLimits}
use Rattle.hall_theorems.proofs.Trees.{no_destinations, listed_chutes}

some_level : (h : Hall) → 1 ≤ levels_of h
unfolding levels_of
some_level none = omega arith
some_level (chute d more) = some_level more
some_level (inner h more) = le_trans (some_level more) (le-max_right (suc (levels_of h)) (levels_of more))

-- what is asked of a hall with so many levels left below and so many chutes before it
pub record Room (below before : ℕ) (h : Hall) : Type 0 where
  pub deep : levels_of h ≤ suc below
  pub few : before + length (destinations_of h) ≤ max_chutes
  pub fits : NumbersFit h

-- reading the entries of such a hall from a list passes over them all
passes : (below at before : ℕ) (h : Hall) (x : List Entry) → Room below before h
    → entries_of list_head below (count h) at before (listed h ++ x) ≡ reached (listed h) (at + length (listed h)) x
unfolding count listed levels_of destinations_of NumbersFit entries_with inner_of list_head
passes below at before none x r = let z : at + 0 ≡ at = omega arith in rw z
passes below at before (chute d more) x r =
    let h : before < max_chutes = omega (arith, r.few) in
    let n : at + 1 + length (listed more) ≡ at + suc (length (listed more)) = omega arith in
    let i = passes below (at + 1) (before + 1) more x (record { deep = r.deep; few = omega (arith, r.few); fits = r.fits.1 }) in
    rw (lt-ltb _ _ h, le-leb _ _ r.fits.0, chute_destinations d [], no_destinations, i, n)
passes zero at before (inner h more) x r = absurd (omega (arith, r.deep, some_level h, le-max_left (suc (levels_of h)) (levels_of more)))
passes (suc below) at before (inner h more) x r =
    let level : 0 < suc below = omega arith in
    let other : hall_kind ≡ chute_kind → ⊥ = λ z. omega arith in
    let few : before + length (destinations_of h) + length (destinations_of more) ≤ max_chutes =
    omega (arith, r.few, length-append (destinations_of h) (destinations_of more)) in
    let deep : levels_of h ≤ suc below = omega (arith, r.deep, le-max_left (suc (levels_of h)) (levels_of more)) in
    let past : ℕ = at + 1 + length (listed h) in
    let i = passes below (at + 1) before h (listed more ++ x) (record { deep = deep; few = omega arith; fits = r.fits.1.0 }) in
    let g = passes (suc below) past (before + length (destinations_of h)) more x
    (record { deep = le_trans (le-max_right (suc (levels_of h)) (levels_of more)) r.deep; few = few; fits = r.fits.1.1 }) in
    let n : past + length (listed more) ≡ at + suc (length (listed h ++ listed more)) = omega (arith, length-append (listed h) (listed more)) in
    rw (
      lt-ltb _ _ level,
      le-leb _ _ r.fits.0,
      append_assoc (listed h) (listed more) x,
      i,
      hall_destinations hall_kind (count h) (listed h) other,
      listed_chutes h,
      g,
      n,
    )

-- the entries of the two lists that hold entries
pub pairs_back : (l : List Entry) → pairs (kinds_of l) (values_of l) ≡ l
unfolding pairs
pairs_back [] = refl
pairs_back (e ∷ l) = ap (λ (x : List Entry). e ∷ x) (pairs_back l)

-- and so the two lists tell the entries
pub entries_same : (l m : List Entry) → kinds_of l ≡ kinds_of m → values_of l ≡ values_of m → l ≡ m
entries_same l m k v = sym (pairs_back l) ∙ rw (k, v) (pairs_back m)

-- a hall's lists are allowed
pub hall_allowed : (h : Hall) → HallLimits h → lists_allowed (count h) (kinds_of (listed h)) (values_of (listed h)) ≡ true
unfolding lists_allowed halls_allowed
hall_allowed h w =
    let equal : length (kinds_of (listed h)) ≡ length (values_of (listed h)) =
    length-map (listed h) (λ (e : Entry). e.kind) ∙ sym (length-map (listed h) (λ (e : Entry). e.value)) in
    let all = passes levels_below 0 0 h [] (record { deep = w.eight_levels_lem; few = omega (arith, w.few_chutes); fits = w.fits }) in
    let whole : entries_of list_head levels_below (count h) 0 0 (listed h) ≡ reached (listed h) (0 + length (listed h)) [] =
    rw (append-nil (listed h)) at all in
    rw (eq-eqb _ _ equal, le-leb _ _ w.outer_fits, pairs_back (listed h), whole)
