-- Laws of rows read by the old rule: from the reader's answer back to the number, how long the rows are, and that they may be written.
use mathlib.Core.Path.{◌≡◌, refl, sym, ap, ◌∙◌}
use mathlib.Core.List.{List, [], ◌∷◌}
use Rattle.std.specs.Prelude.{Option, Some, Ok}
use mathlib.Core.Bool.{true}
use Prim.Native.Nat.{ℕ, zero, suc, ◌+◌, ◌-◌, ◌≤◌, ◌<◌}
use native.Mathlib.Omega.{arith}
use lib.ListN.{length, drop, length-append}
use lib.Seq.{drop-drop}
use borrow.Author.Tests.{le-leb}
use Rattle.leb128.specs.Number.{Parsed, value, bad, max_number}
use Rattle.leb128.specs.Answers.{number_answer, ReadsNumber}
use Rattle.leb128.specs.Laws.Reading.{limit_three, Rest}
use Rattle.leb128.specs.declared.Number.{Number}
use Rattle.leb128_write.specs.Written.{written_number}
use Rattle.leb128_write.specs.Answers.{number_length, unless_zero}
use Rattle.leb128_write.proofs.Laws.{groups_count, length_is_lem, length_known, some_answer}
use Rattle.old_number.specs.OldNumber.{old_number}
use Rattle.old_number.specs.Laws.{OldUsed, old_used}
use Rattle.plan_read.specs.Limits.{max_rows}
use Rattle.plan_read.specs.Plan.{Plan, rows, refused, row, cons_row, after_number, rows_by, row_destinations}
use Rattle.plan_read.specs.Laws.Reading.{rows_more}
use Rattle.plan_read.specs.declared.Row.{Row}
use Rattle.plan_length.specs.Length.{written_rows, rows_allowed, allowed, length_is, length_of}
use Rattle.plan_length.specs.Laws.{plan_length}
use Rattle.plan_migration.specs.Migration.{migrated_length}
use Rattle.plan_migration.specs.Room.{length_with}

-- what is left after a number, at a place of a list
old_rest : (at : ℕ) (s : List ℕ) (p : Parsed) → OldUsed 2 at (drop at s) p → Rest at s p
old_rest at s (value v n rest) u = let k : at + (n - at) ≡ n = omega (arith, u.some) in (u.some, u.left ∙ rw (drop-drop, k))
old_rest at s (bad place) u = tt

pub first_rest : (s : List ℕ) → Rest 0 s (old_number 0 s)
first_rest s = old_rest 0 s (old_number 0 s) (old_used 2 0 s)

-- a number that the reader found
pub record Found (at : ℕ) (s : List ℕ) (v next : ℕ) : Type 0 where
  pub is : old_number at (drop at s) ≡ value v next (drop next s)
  pub small : v ≤ max_number

pub found : (at : ℕ) (s : List ℕ) (n : Number) → ReadsNumber (old_number at (drop at s)) (Ok n) → Found at s n.value n.next
found at s n h = go (old_number at (drop at s)) refl (old_used 2 at (drop at s)) h.answer
  where
    go : (p : Parsed) → old_number at (drop at s) ≡ p → OldUsed 2 at (drop at s) p → Ok n ≡ number_answer p → Found at s n.value n.next
    go (value w m rest) q u k =
        let e : ◌≡◌ {A = Number} n (record { value = w; next = m }) = cc in
        rw e (record { is = q ∙ rw (old_rest at s (value w m rest) u).1; small = omega (arith, limit_three, u.below) })
    go (bad place) q u k = absurd cc

-- a number that is written takes at most three bytes
pub record Counted (v n : ℕ) : Type 0 where
  pub is : n ≡ number_length v
  pub small : n ≤ 3

pub counted : (v : ℕ) → v ≤ max_number → (r : Option ℕ) → r ≡ unless_zero (number_length v) → (n : ℕ) → r ≡ Some n → Counted v n
counted v h r e n s =
    let k = length_known v n (sym s ∙ e) in
    record { is = k.1 ∙ sym (length_is_lem v h); small = omega (arith, k.1, groups_count 2 v) }

-- which is always answered
pub length_some : (v : ℕ) → v ≤ max_number → unless_zero (number_length v) ≡ Some (length (written_number v))
length_some v h = rw (length_is_lem v h) (some_answer (length (written_number v)) (omega (arith, groups_count 2 v)))

with_row : (n : ℕ) (r : Row) (p : Plan) → length_with n (cons_row r p) ≡ length_with (n + length (written_number r.destination)) p
unfolding written_rows
with_row n r (rows l) =
    let d : ℕ = length (written_number r.destination) in
    let m : ℕ = length (written_rows (row_destinations l)) in
    let e : n + (length (written_number r.destination) + length (written_rows (row_destinations l))) ≡
    n + length (written_number r.destination) + length (written_rows (row_destinations l)) = omega arith in
    rw (length-append (written_number r.destination) (written_rows (row_destinations l)), e)
with_row n r (refused k place) = refl

-- a row more is counted
pub with_more : (s : List ℕ) (i count at v next n : ℕ) → i < count → Found at s v next
    → length_with n (rows_by old_number (count - i) at (drop at s))
    ≡ length_with (n + number_length v) (rows_by old_number (count - (i + 1)) next (drop next s))
with_more s i count at v next n h f =
    rw (rows_more old_number s i count at v next h f.is, length_is_lem v f.small)
    (with_row n (row v at next) (rows_by old_number (count - (i + 1)) next (drop next s)))

-- no row is to come
pub with_none : (n : ℕ) (p : Plan) → p ≡ rows [] → length_with n p ≡ length_is n
unfolding written_rows
with_none n p e = let z : n + 0 ≡ n = omega arith in rw (e, z)

-- rows that were read: as many as were asked for, and each may be written
abbrev pub Readable : ℕ → Plan → Type 0
Readable n (rows l) = (length (row_destinations l) ≡ n) × (rows_allowed (row_destinations l) ≡ true)
Readable n (refused k place) = Unit

cons_readable : (n : ℕ) (r : Row) (p : Plan) → r.destination ≤ max_number → Readable n p → Readable (suc n) (cons_row r p)
unfolding rows_allowed
cons_readable n r (rows l) h u = (ap suc u.0, rw (le-leb _ _ h, u.1))
cons_readable n r (refused k place) h u = tt

pub rows_readable : (n at : ℕ) (s : List ℕ) → Readable n (rows_by old_number n at s)
unfolding rows_by rows_allowed
rows_readable zero at [] = (refl, refl)
rows_readable zero at (b ∷ s) = tt
rows_readable (suc n) at s = go (old_number at s) (old_used 2 at s) (λ next rest. rows_readable n next rest)
  where
    go : (p : Parsed) → OldUsed 2 at s p → ((next : ℕ) (rest : List ℕ) → Readable n (rows_by old_number n next rest))
        → Readable (suc n) (after_number p (λ v next rest. cons_row (row v at next) (rows_by old_number n next rest)))
    go (value v next rest) u ih = cons_readable n (row v at next) (rows_by old_number n next rest) (omega (arith, limit_three, u.below)) (ih next rest)
    go (bad place) u ih = tt

-- so the bytes counted are the length of the migrated plan
pub length_counted : (n : ℕ) (p : Plan) → n ≤ max_rows → Readable n p → length_with (number_length n) p ≡ migrated_length p
unfolding length_of allowed
length_counted n (rows l) h u =
    let k : n ≤ max_number = omega arith in
    rw (plan_length (row_destinations l), u.0, le-leb _ _ h, u.1, length_is_lem n k)
length_counted n (refused k place) h u = refl
