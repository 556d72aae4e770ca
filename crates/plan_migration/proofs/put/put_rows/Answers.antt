-- A turn reads a row and stores it, by the laws of the row that stands first among those to come. There is room for the rows to come only if they can be
-- read, so that each turn reads one.
use Rattle.std.proofs.Common.{rules, ◌≡◌, sym, ap, subst, ◌∙◌, ℕ, ◌+◌, ◌-◌, ◌≤◌, ◌<◌, List, length, drop, arith, Option, Some, Result, Ok, Err, IsOk}
use Rattle.std.proofs.lemmas.List.Edits.{sets}
use Rattle.answers.specs.declared.Malformed.{Malformed}
use Rattle.leb128.specs.Answers.{ReadsNumber}
use Rattle.leb128.specs.declared.Number.{Number}
use Rattle.leb128_write.specs.Written.{written_number}
use Rattle.leb128_write.specs.Answers.{written_past, number_written, unless_zero}
use Rattle.leb128_write.proofs.Laws.{past_some, is_written}
use Rattle.old_number.specs.OldNumber.{old_number}
use Rattle.old_number.proofs.Reading.{bad_known}
use Rattle.plan_read.specs.Plan.{Plan, row, cons_row, rows_by}
use Rattle.plan_read.specs.Laws.Reading.{rows_more, rows_bad}
use Rattle.plan_length.specs.Length.{written_rows}
use Rattle.plan_migration.specs.Room.{RowsRoom, destinations_in}
use Rattle.plan_migration.proofs.Rows.{found}
use Rattle.plan_migration.proofs.Stores.{FirstRow, first_row_lem, none_left}
use Rattle.plan_migration.proofs.put.put_rows.Goals as goal

-- what is read at the place of the next row, of those to come
module _ (s : List ℕ) (i count at to : ℕ) (out : List ℕ) (more : i < count)
    (room : RowsRoom (rows_by old_number (count - i) at (drop at s)) to (length out)) where
  row_there : (r : Result Number Malformed) → ReadsNumber (old_number at (drop at s)) r → IsOk r
  row_there (Ok n) h = search rules
  row_there (Err e) h =
      absurd (subst (λ (p : Plan). RowsRoom p to (length out)) (rows_bad old_number s i count at e.place more (bad_known (old_number at (drop at s)) e h)) room)

  module _ (n : Number) (h : ReadsNumber (old_number at (drop at s)) (Ok n)) where
    abbrev others : Plan
    others = rows_by old_number (count - (i + 1)) n.next (drop n.next s)

    split : rows_by old_number (count - i) at (drop at s) ≡ cons_row (row n.value at n.next) others
    split = rows_more old_number s i count at n.value n.next more (found at s n h).is

    first : FirstRow (row n.value at n.next) others out to
    first = first_row_lem (row n.value at n.next) others out to (subst (λ (p : Plan). RowsRoom p to (length out)) split room)

    -- and is written
    record RowWritten (answer : Option ℕ) (after : List ℕ) : Type 0 where
      past : answer ≡ Some (to + length (written_number n.value))
      left : RowsRoom others (to + length (written_number n.value)) (length out)
      stored : sets after (to + length (written_number n.value)) (written_rows (destinations_in others))
          ≡ sets out to (written_rows (destinations_in (rows_by old_number (count - i) at (drop at s))))

    row_written : (answer : Option ℕ) (after : List ℕ)
        → (answer ≡ unless_zero (written_past to n.value (length out))) × (after ≡ number_written to n.value out) → RowWritten answer after
    row_written answer after e =
        let stores = e.1 ∙ is_written to n.value first.small out first.room in
        record {
          past = e.0 ∙ past_some to n.value first.small out first.room;
          left = first.others;
          stored = rw (stores, split) (sym first.stored);
        }

pub unwrap-row-requires : goal.unwrap-row-requires
unwrap-row-requires c =
    let l = c.loop in
    row_there c.args.plan.now l.counter c.args.count l.at l.to l.out c.loop-test.true l.invariant.room c.old_number_at.result c.old_number_at.ensures

-- the number that was read
read : (at : ℕ) (s : List ℕ) (r : Result Number Malformed) (n : Number) → r ≡ Ok n → ReadsNumber (old_number at (drop at s)) r
    → ReadsNumber (old_number at (drop at s)) (Ok n)
read at s r n e = subst (ReadsNumber (old_number at (drop at s))) e

pub unwrap-to-requires : goal.unwrap-to-requires
unwrap-to-requires c =
    let l = c.loop in
    let s = c.args.plan.now in
    let n = c.unwrap-row.result in
    let h = read l.at s c.old_number_at.result n c.unwrap-row.ensures c.old_number_at.ensures in
    let w = row_written s l.counter c.args.count l.at l.to l.out c.loop-test.true l.invariant.room n h _ _ c.write_number.ensures in
    search (rules, w.past)

pub loop-preserved : goal.loop-preserved
loop-preserved c =
    let l = c.loop in
    let s = c.args.plan.now in
    let n = c.unwrap-row.result in
    let h = read l.at s c.old_number_at.result n c.unwrap-row.ensures c.old_number_at.ensures in
    let w = row_written s l.counter c.args.count l.at l.to l.out c.loop-test.true l.invariant.room n h _ _ c.write_number.ensures in
    let past : c.unwrap-to.result ≡ l.to + length (written_number n.value) = search (rules, w.past) in
    record { room = rw (past, c.write_number.auto.out) w.left; stored = rw past (w.stored ∙ l.invariant.stored) }

pub returns : goal.returns
returns c =
    let l = c.loop in
    let last : c.args.count ≤ l.counter = omega arith in
    let none = none_left l.counter c.args.count l.at l.to (length l.out) c.args.plan.now last l.invariant.room in
    sym (ap (sets l.out l.to) none) ∙ l.invariant.stored
