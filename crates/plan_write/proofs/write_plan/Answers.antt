-- The length asked first says whether the rows keep the rules; where they do and fill the buffer, the two runs of stores are the whole plan.
-- Every refusal stands before the first store.
use Rattle.std.proofs.Common.{rules, ◌≡◌, ap, ◌∙◌, ℕ, ◌+◌, ◌≤◌, List, length, arith, Option, Some}
use Rattle.std.proofs.lemmas.List.Edits.{sets}
use Rattle.leb128_write.specs.Written.{written_number}
use Rattle.leb128_write.specs.Answers.{written_past, number_written, unless_zero}
use Rattle.leb128_write.proofs.Laws.{past_some, is_written}
use Rattle.plan_length.specs.Length.{written_rows, length_is, length_of}
use Rattle.plan_length.specs.Laws.{plan_length}
use Rattle.plan_write.proofs.Rows.{known_length, known_rows, other_length, all_written, not_allowed}
use Rattle.plan_write.proofs.write_plan.Goals as goal

-- the number of rows is written, and the rows are to begin past it
record Counted (l out : List ℕ) (first : Option ℕ) (stored : List ℕ) : Type 0 where
  place : first ≡ Some (length (written_number (length l)))
  stores : stored ≡ sets out 0 (written_number (length l))
  room : length (written_number (length l)) + length (written_rows l) ≤ length out

-- past both tests of the length n
count_written : (l out : List ℕ) (n : ℕ) → length_is n ≡ length_of l → n ≡ length out → (first : Option ℕ) (stored : List ℕ)
    → (first ≡ unless_zero (written_past 0 (length l) (length out))) × (stored ≡ number_written 0 (length l) out) → Counted l out first stored
count_written l out n e m first stored w =
    let bounded = (known_rows l n e).0 in
    let all : length (written_number (length l)) + length (written_rows l) ≡ length out = omega (arith, plan_length l, known_length l n e) in
    let room : 0 + length (written_number (length l)) ≤ length out = omega arith in
    let k : 0 + length (written_number (length l)) ≡ length (written_number (length l)) = omega arith in
    record {
      place = rw k at (w.0 ∙ past_some 0 (length l) (omega (arith, bounded)) out room);
      stores = w.1 ∙ is_written 0 (length l) (omega (arith, bounded)) out room;
      room = omega arith;
    }

pub returns-in_err-needed : goal.returns-in_err-needed
returns-in_err-needed c =
    let f = not_allowed c.args.rows.now c.args.out.now c.in_err-needed.field-0.0 c.in_err-needed.ensures in
    search (rules, f)

pub returns-then-needed-out : goal.returns-then-needed-out
returns-then-needed-out c = other_length c.args.rows.now c.in_ok-needed.needed c.in_ok-needed.ensures c.args.out.now c.if-needed-out.true

pub overflow_cast-rows : goal.overflow_cast-rows
overflow_cast-rows c = omega (arith, (known_rows c.args.rows.now c.in_ok-needed.needed c.in_ok-needed.ensures).0)

pub unwrap-first-requires : goal.unwrap-first-requires
unwrap-first-requires c =
    let n = count_written c.args.rows.now c.args.out.now c.in_ok-needed.needed c.in_ok-needed.ensures c.if-needed-out.false _ _ c.write_number.ensures in
    search (rules, n.place)

pub put_rows-requires : goal.put_rows-requires
put_rows-requires c =
    let l = c.args.rows.now in
    let n = count_written l c.args.out.now c.in_ok-needed.needed c.in_ok-needed.ensures c.if-needed-out.false _ _ c.write_number.ensures in
    let place : c.unwrap-first.result ≡ length (written_number (length l)) = search (rules, n.place) in
    record { small = (known_rows l c.in_ok-needed.needed c.in_ok-needed.ensures).1; room = omega (arith, n.room, place, c.write_number.auto.out) }

pub returns : goal.returns
returns c =
    let l = c.args.rows.now in
    let n = count_written l c.args.out.now c.in_ok-needed.needed c.in_ok-needed.ensures c.if-needed-out.false _ _ c.write_number.ensures in
    let place : c.unwrap-first.result ≡ length (written_number (length l)) = search (rules, n.place) in
    all_written l c.in_ok-needed.needed c.in_ok-needed.ensures c.args.out.now _ _ c.if-needed-out.false n.stores
    (c.put_rows.ensures ∙ ap (λ (m : ℕ). sets c.write_number.new.out m (written_rows l)) place)
