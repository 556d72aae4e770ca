-- Laws of a migrated plan's stores: the rows to come by the row that is stored next, and the plan by its number of rows.
use mathlib.Core.Path.{◌≡◌, refl, sym, ap, subst, ◌∙◌}
use mathlib.Core.List.{List, [], ◌∷◌, ◌++◌}
use Rattle.std.specs.Prelude.{Result, Ok, Err}
use mathlib.Core.Bool.{Bool, true, false, cond}
use Prim.Native.Nat.{ℕ, zero, ◌+◌, ◌-◌, ◌≤◌}
use native.Mathlib.Omega.{arith}
use lib.ListN.{length, drop, length-append}
use lib.Seq.{sets}
use lib.Dec.{ltb, leb}
use borrow.Author.Tests.{ltb-true, ltb-false, leb-true}
use Rattle.answers.specs.Numbers.{input_too_long}
use Rattle.stores.specs.Laws.{sets_append, sets_all}
use Rattle.leb128.specs.Answers.{ReadsNumber}
use Rattle.leb128.specs.declared.Number.{Number}
use Rattle.answers.specs.declared.Malformed.{Malformed}
use Rattle.leb128_write.specs.Written.{written_number}
use Rattle.old_number.specs.OldNumber.{old_number}
use Rattle.plan_read.specs.Limits.{max_plan, max_rows, max_destination}
use Rattle.plan_read.specs.Plan.{Plan, rows, refused, malformed, cons_row, rows_by, plan_by, row_destinations}
use Rattle.plan_read.specs.Laws.Reading.{rows_after, whole_long, whole_after}
use Rattle.plan_read.specs.declared.Row.{Row}
use Rattle.plan_length.specs.Length.{written_rows, written_plan, rows_allowed, allowed}
use Rattle.plan_length.specs.Laws.{and_left, and_right, plan_length}
use Rattle.plan_migration.specs.Room.{RowsRoom, PlanRoom, destinations_in}
use Rattle.plan_migration.proofs.Rows.{first_rest, Readable, rows_readable}

-- a row that stands first among those to come
pub record FirstRow (r : Row) (p : Plan) (out : List ℕ) (to : ℕ) : Type 0 where
  pub small : r.destination ≤ max_destination
  pub room : to + length (written_number r.destination) ≤ length out
  pub others : RowsRoom p (to + length (written_number r.destination)) (length out)
  pub stored : sets out to (written_rows (destinations_in (cons_row r p)))
      ≡ sets (sets out to (written_number r.destination)) (to + length (written_number r.destination)) (written_rows (destinations_in p))

pub first_row_lem : (r : Row) (p : Plan) (out : List ℕ) (to : ℕ) → RowsRoom (cons_row r p) to (length out) → FirstRow r p out to
unfolding rows_allowed written_rows
first_row_lem r (rows l) out to u =
    let d : List ℕ = written_number r.destination in
    let m : List ℕ = written_rows (row_destinations l) in
    let joined = length-append (written_number r.destination) (written_rows (row_destinations l)) in
    record {
      small = leb-true _ _ (and_left (leb r.destination max_destination) (rows_allowed (row_destinations l)) u.small);
      room = omega (arith, u.room, joined);
      others = record {
        small = and_right (leb r.destination max_destination) (rows_allowed (row_destinations l)) u.small;
        room = omega (arith, u.room, joined);
      };
      stored = sets_append out to (written_number r.destination) (written_rows (row_destinations l));
    }
first_row_lem r (refused n place) out to u = absurd u

pub room_moved : (p : Plan) (to to' n n' : ℕ) → to' ≡ to → n' ≡ n → RowsRoom p to n → RowsRoom p to' n'
room_moved p to to' n n' e q u = rw (e, q) u

-- after the last row
pub none_left : (i count at to n : ℕ) (s : List ℕ) → count ≤ i → RowsRoom (rows_by old_number (count - i) at (drop at s)) to n
    → written_rows (destinations_in (rows_by old_number (count - i) at (drop at s))) ≡ []
unfolding rows_by written_rows
none_left i count at to n s h u = let k : count - i ≡ zero = omega arith in rw k (go (drop at s) (rw k at u))
  where
    go : (t : List ℕ) → RowsRoom (rows_by old_number zero at t) to n → written_rows (destinations_in (rows_by old_number zero at t)) ≡ []
    go [] w = refl
    go (b ∷ t) w = absurd w

-- a plan that can be read and fills n bytes, by its number of rows and where these begin
pub record PlanParts (s : List ℕ) (n count next : ℕ) : Type 0 where
  pub small : count ≤ max_rows
  pub first_room : length (written_number count) ≤ n
  pub rows_room : RowsRoom (rows_by old_number count next (drop next s)) (length (written_number count)) n
  pub joined : written_number count ++ written_rows (destinations_in (rows_by old_number count next (drop next s)))
      ≡ written_plan (destinations_in (plan_by old_number s))
  pub fills : length (written_plan (destinations_in (plan_by old_number s))) ≡ n

module _ (s : List ℕ) (n : ℕ) (u : PlanRoom (plan_by old_number s) n) (r : Result Number Malformed) (h : ReadsNumber (old_number 0 (drop 0 s)) r) where
  room_of : (p : Plan) → plan_by old_number s ≡ p → PlanRoom p n
  room_of p e = subst (λ (q : Plan). PlanRoom q n) e u

  short : length s ≤ max_plan
  short = go (ltb max_plan (length s)) refl
    where
      go : (t : Bool) → ltb max_plan (length s) ≡ t → length s ≤ max_plan
      go true e = absurd (room_of (refused input_too_long 0) (whole_long old_number s (λ (p : Plan). p) (ltb-true _ _ e)))
      go false e = ltb-false _ _ e

  after : plan_by old_number s ≡ rows_after old_number s (λ (p : Plan). p) r
  after = sym (whole_after old_number s (λ (p : Plan). p) (first_rest s) short) ∙ sym (ap (rows_after old_number s (λ (p : Plan). p)) h.answer)

  pub none_read : (e : Malformed) → r ≡ Err e → ⊥
  none_read m e = room_of (malformed m.place) (after ∙ ap (rows_after old_number s (λ (p : Plan). p)) e)

  module _ (count next : ℕ) where
    abbrev to_come : Plan
    to_come = rows_by old_number count next (drop next s)

    parts : (p : Plan) → to_come ≡ p → plan_by old_number s ≡ p → Readable count p → PlanRoom p n → count ≤ max_rows → PlanParts s n count next
    unfolding written_plan allowed
    parts (rows l) e q w f m =
        let d : List ℕ = row_destinations l in
        let long : length (written_number count) + length (written_rows (row_destinations l)) ≡ n =
        rw w.0 at (sym (plan_length (row_destinations l)) ∙ f.fills) in
        record {
          small = m;
          first_room = omega arith;
          rows_room = rw e (record { small = w.1; room = omega arith });
          joined = rw (e, q, w.0);
          fills = rw q f.fills;
        }
    parts (refused k place) e q w f m = absurd f

    pub plan_parts : r ≡ Ok (record { value = count; next = next }) → PlanParts s n count next
    plan_parts e = go (leb count max_rows) refl (after ∙ ap (rows_after old_number s (λ (p : Plan). p)) e)
      where
        go : (t : Bool) → leb count max_rows ≡ t → plan_by old_number s ≡ cond t to_come (malformed 0) → PlanParts s n count next
        go true k q = parts to_come refl q (rows_readable count next (drop next s)) (room_of to_come q) (leb-true _ _ k)
        go false k q = absurd (room_of (malformed 0) q)

-- the stores of the number of rows and of the rows together
pub plan_stored : (out first after : List ℕ) (k : ℕ) (d others whole : List ℕ) → first ≡ sets out 0 d → after ≡ sets first k others → k ≡ length d
    → d ++ others ≡ whole → length whole ≡ length out → after ≡ whole
plan_stored out first after k d others whole ef ea ek ew n =
    let z : 0 + length d ≡ length d = omega arith in
    let all : sets out 0 (d ++ others) ≡ after = sets_append out 0 d others ∙ rw (z, ← ef, ← ek, ← ea) in
    sym all ∙ ap (sets out 0) ew ∙ sets_all out whole n
