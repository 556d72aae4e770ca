-- Flat plans have one form: each number that is read is the number written, and so the rows one after another are the rows written. Lookups at every chute tell
-- the destinations, since a chute past the last row is answered with 10 and not with a destination.
use mathlib.Core.Path.{◌≡◌, refl, sym, ap, ◌∙◌}
use mathlib.Core.List.{List, [], ◌∷◌, ◌++◌}
use mathlib.Core.Bool.{Bool, true, false, cond}
use Prim.Native.Nat.{ℕ, zero, suc, ◌≤◌}
use native.Mathlib.Omega.{arith}
use lib.ListN.{length}
use lib.Dec.{ltb, leb, leb-suc-suc}
use borrow.Author.Tests.{lt-ltb, le-leb, eq-eqb}
use Rattle.answers.specs.Numbers.{done, input_too_long}
use Rattle.answers.specs.Breaches.{no_place}
use Rattle.encode.specs.Laws.Bytes.{Bytes}
use Rattle.leb128.specs.Number.{Parsed, value, bad}
use Rattle.leb128.specs.Laws.Reading.{Used, limit_three, groups_used}
use Rattle.leb128_write.specs.Written.{written_number}
use Rattle.leb128_write.proofs.FormLaws.{Form, groups_form}
use Rattle.plan_read.specs.Limits.{max_plan, max_rows, max_destination}
use Rattle.plan_read.specs.Plan.{
  Plan,
  rows,
  refused,
  malformed,
  cons_row,
  after_number,
  plan_number,
  row,
  rows_by,
  rows_from,
  plan_in,
  plan_by,
  plan_of,
  row_destinations,
}
use Rattle.plan_read.specs.declared.Row.{Row}
use Rattle.plan_read.specs.Laws.Refusals.{Numbered, plan_numbered}
use Rattle.plan.specs.Answers.{summary, summary_of, found_destination, lookup_in}
use Rattle.plan.specs.Laws.{lookup_rows}
use Rattle.plan.specs.declared.Lookup.{Lookup}
use Rattle.plan_length.specs.Length.{written_rows, written_plan, rows_allowed, allowed}
use Rattle.plan_write.specs.Write.{fills, write_refusal, written_of}
use Rattle.canonical_theorems.specs.CanonicalTheorems.{SameLookups, WritesBack}

-- n rows of the bytes s: they are their destinations written, and each fits three groups
pub record RowsFormOf (n : ℕ) (s : List ℕ) (l : List Row) : Type 0 where
  pub count : length (row_destinations l) ≡ n
  pub bytes : s ≡ written_rows (row_destinations l)
  pub fit : rows_allowed (row_destinations l) ≡ true

abbrev RowsForm : ℕ → List ℕ → Plan → Type 0
RowsForm n s (rows l) = RowsFormOf n s l
RowsForm n s (refused r place) = Unit

cons_form : (n v at next : ℕ) (s rest : List ℕ) (p : Plan) → v ≤ max_destination → s ≡ written_number v ++ rest → RowsForm n rest p
    → RowsForm (suc n) s (cons_row (row v at next) p)
unfolding written_rows rows_allowed
cons_form n v at next s rest (rows l) small e w =
    record { count = ap suc w.count; bytes = e ∙ ap (λ (t : List ℕ). written_number v ++ t) w.bytes; fit = rw (le-leb _ _ small) w.fit }
cons_form n v at next s rest (refused r place) small e w = tt

rows_form : (n at : ℕ) (s : List ℕ) → Bytes s → RowsForm n s (rows_from n at s)
unfolding rows_by written_rows rows_allowed
rows_form zero at [] h = record { count = refl; bytes = refl; fit = refl }
rows_form zero at (b ∷ s) h = tt
rows_form (suc n) at s h = go (plan_number at s) (groups_form true 2 at s h) (groups_used true 2 at s) (λ next rest i. rows_form n next rest i)
  where
    go : (p : Parsed) → Form true 2 at s p → Used true 2 at s p
        → ((next : ℕ) (rest : List ℕ) → Bytes rest → RowsForm n rest (rows_from n next rest))
        → RowsForm (suc n) s (after_number p (λ v next rest. cons_row (row v at next) (rows_from n next rest)))
    go (value v next rest) f u ih =
        cons_form n v at next s rest (rows_from n next rest) (omega (arith, limit_three, u.below)) f.bytes (ih next rest f.others)
    go (bad place) f u ih = tt

-- a plan: it is its destinations written, and these keep the plan's rules
pub record PlanFormOf (s : List ℕ) (l : List Row) : Type 0 where
  pub bytes : s ≡ written_plan (row_destinations l)
  pub keeps : allowed (row_destinations l) ≡ true

abbrev PlanForm : List ℕ → Plan → Type 0
PlanForm s (rows l) = PlanFormOf s l
PlanForm s (refused r place) = Unit

plan_form : (s : List ℕ) → Bytes s → PlanForm s (plan_of s)
unfolding plan_by written_plan allowed
plan_form s h = long (ltb max_plan (length s)) (plan_in s) (go (plan_number 0 s) (groups_form true 2 0 s h))
  where
    long : (t : Bool) (p : Plan) → PlanForm s p → PlanForm s (cond t (refused input_too_long no_place) p)
    long true p u = tt
    long false p u = u

    most : (t : Bool) (v : ℕ) (rest : List ℕ) (p : Plan) → leb v max_rows ≡ t → s ≡ written_number v ++ rest → RowsForm v rest p
        → PlanForm s (cond t p (malformed 0))
    most true v rest (rows l) k e w = record { bytes = rw (w.count, ← w.bytes) e; keeps = rw (w.count, k) w.fit }
    most true v rest (refused r place) k e w = tt
    most false v rest p k e w = tt

    go : (p : Parsed) → Form true 2 0 s p → PlanForm s (after_number p (λ count next rest. cond (leb count max_rows) (rows_from count next rest) (malformed 0)))
    go (value v next rest) f = most (leb v max_rows) v rest (rows_from v next rest) refl f.bytes (rows_form v next rest f.others)
    go (bad place) f = tt

-- of bytes that read as rows
module _ (s : List ℕ) (l : List Row) (h : Bytes s) (e : plan_of s ≡ rows l) where
  form : PlanFormOf s l
  form = rw e at (plan_form s h)

  pub plan_written : s ≡ written_plan (row_destinations l)
  plan_written = form.bytes

  pub plan_allowed : allowed (row_destinations l) ≡ true
  plan_allowed = form.keeps

  module _ (out : List ℕ) (n : length out ≡ length s) where
    full : fills (row_destinations l) (length out) ≡ true
    unfolding fills
    full = rw (plan_allowed, eq-eqb (length (written_plan (row_destinations l))) (length out) (omega (arith, ap length plan_written)))

    pub write_back : WritesBack (row_destinations l) s out
    unfolding write_refusal written_of
    write_back = record { accepted = rw full; holds = rw full (sym plan_written) }

-- lists that answer every lookup alike are equal
first_lookup : (v : ℕ) (l : List ℕ) → lookup_in (v ∷ l) 1 ≡ found_destination v
first_lookup v l = rw (lt-ltb 0 (length (v ∷ l)) (omega arith))

later_lookup : (v : ℕ) (l : List ℕ) (chute : ℕ) → lookup_in (v ∷ l) (suc (suc chute)) ≡ lookup_in l (suc chute)
later_lookup v l chute = rw (leb-suc-suc (suc chute) (length l))

same_destinations : (l m : List ℕ) → ((chute : ℕ) → lookup_in l chute ≡ lookup_in m chute) → l ≡ m
same_destinations [] [] e = refl
same_destinations [] (v ∷ m) e = absurd (omega (arith, ap (λ (a : Lookup). a.number) (e 1 ∙ first_lookup v m)))
same_destinations (v ∷ l) [] e = absurd (omega (arith, ap (λ (a : Lookup). a.number) (sym (first_lookup v l) ∙ e 1)))
same_destinations (v ∷ l) (w ∷ m) e =
    let here : v ≡ w = ap (λ (a : Lookup). a.destination) (sym (first_lookup v l) ∙ e 1 ∙ first_lookup w m) in
    rw (here, same_destinations l m later)
  where
    later : (chute : ℕ) → lookup_in l chute ≡ lookup_in m chute
    later zero = refl
    later (suc c) = sym (later_lookup v l c) ∙ e (suc (suc c)) ∙ later_lookup w m c

-- the rows of an accepted plan
pub record RowsOf (s : List ℕ) : Type 0 where
  pub all : List Row
  pub is : plan_of s ≡ rows all

pub accepted_rows : (s : List ℕ) → (summary_of s).number ≡ done → RowsOf s
unfolding summary_of
accepted_rows s z = go (plan_of s) refl (plan_numbered s) z
  where
    go : (p : Plan) → plan_of s ≡ p → Numbered p → (summary p).number ≡ done → RowsOf s
    go (rows l) e u q = record { all = l; is = e }
    go (refused n place) e u q = absurd (omega arith)

pub equal_plans : (s t : List ℕ) → Bytes s → Bytes t → SameLookups s t → s ≡ t
equal_plans s t h k a =
    let x = accepted_rows s a.accepted in
    let y = accepted_rows t a.other_accepted in
    let same = same_destinations (row_destinations x.all) (row_destinations y.all)
    (λ chute. sym (lookup_rows s x.all x.is chute) ∙ a.every_chute chute ∙ lookup_rows t y.all y.is chute) in
    plan_written s x.all h x.is ∙ ap written_plan same ∙ sym (plan_written t y.all k y.is)
