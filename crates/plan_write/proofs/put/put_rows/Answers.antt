-- A turn writes the row that comes next: the row is allowed and there is room for it, and what is left of both serves the rows after it.
use Rattle.std.proofs.Common.{rules, ◌≡◌, sym, ◌∙◌, ◌+◌, ◌≤◌, ◌<◌, ℕ, List, length, drop, get_or, true, arith, Option, Some}
use Rattle.std.proofs.lemmas.List.Edits.{sets}
use Rattle.leb128_write.specs.Written.{written_number}
use Rattle.leb128_write.specs.Answers.{written_past, number_written, unless_zero}
use Rattle.leb128_write.proofs.Laws.{past_some, is_written}
use Rattle.plan_length.specs.Length.{written_rows, rows_allowed}
use Rattle.plan_write.proofs.Rows.{row_room, rows_sets, rows_end, first_allowed, others_allowed}
use Rattle.plan_write.proofs.put.put_rows.Goals as goal

-- a row that is written at a place, with the rows to come
record RowWritten (rows : List ℕ) (i at : ℕ) (out : List ℕ) (answer : Option ℕ) (stored : List ℕ) : Type 0 where
  past : answer ≡ Some (at + length (written_number (get_or rows i 0)))
  stores : stored ≡ sets out at (written_number (get_or rows i 0))
  others : rows_allowed (drop (i + 1) rows) ≡ true
  room : at + length (written_number (get_or rows i 0)) + length (written_rows (drop (i + 1) rows)) ≤ length out

row_written : (rows : List ℕ) (i at : ℕ) (out : List ℕ) → i < length rows → rows_allowed (drop i rows) ≡ true
    → at + length (written_rows (drop i rows)) ≤ length out → (answer : Option ℕ) (stored : List ℕ)
    → (answer ≡ unless_zero (written_past at (get_or rows i 0) (length out))) × (stored ≡ number_written at (get_or rows i 0) out)
    → RowWritten rows i at out answer stored
row_written rows i at out h ok room answer stored e =
    let small = first_allowed i rows h ok in
    let left = row_room i rows h at (length out) room in
    let fits : at + length (written_number (get_or rows i 0)) ≤ length out = omega (arith, left) in
    record {
      past = e.0 ∙ past_some at (get_or rows i 0) small out fits;
      stores = e.1 ∙ is_written at (get_or rows i 0) small out fits;
      others = others_allowed i rows h ok;
      room = left;
    }

pub unwrap-at-requires : goal.unwrap-at-requires
unwrap-at-requires c =
    let l = c.loop-row in
    let w = row_written _ l.row-index l.at l.out c.loop-row-test.true l.invariant.small l.invariant.room _ _ c.write_number.ensures in
    search (rules, w.past)

pub loop-row-preserved : goal.loop-row-preserved
loop-row-preserved c =
    let l = c.loop-row in
    let rows = c.args.rows.now in
    let w = row_written rows l.row-index l.at l.out c.loop-row-test.true l.invariant.small l.invariant.room _ _ c.write_number.ensures in
    let past : c.unwrap-at.result ≡ l.at + length (written_number (get_or rows l.row-index 0)) = search (rules, w.past) in
    record {
      small = w.others;
      room = omega (arith, w.room, past, c.write_number.auto.out);
      stored = rw (past, w.stores) (sym (rows_sets l.row-index rows c.loop-row-test.true l.out l.at) ∙ l.invariant.stored);
    }

pub returns : goal.returns
returns c =
    let l = c.loop-row in
    sym (rows_end l.row-index c.args.rows.now l.out l.at (omega arith)) ∙ l.invariant.stored
