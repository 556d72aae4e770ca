-- A long buffer is refused first. The length asked then says whether the lists keep the rules; where they do and fill the buffer, the two runs of stores are
-- the whole plan. Every refusal stands before the first store.
use Rattle.std.proofs.Common.{rules, ◌≡◌, ap, ◌∙◌, ℕ, ◌+◌, ◌≤◌, List, length, arith, Option, Some}
use Rattle.std.proofs.Math.Seq.{sets}
use Rattle.leb128.specs.Number.{max_number}
use Rattle.leb128_write.specs.Written.{written_number}
use Rattle.leb128_write.specs.Answers.{written_past, number_written, unless_zero}
use Rattle.leb128_write.proofs.Laws.{past_some, is_written}
use Rattle.hall_check.specs.Lists.{pairs}
use Rattle.hall_check.specs.Laws.Taken.{lists_known}
use Rattle.hall_length.specs.Written.{written_entries}
use Rattle.hall_length.specs.Laws.{halls_length, lists_fit_lem}
use Rattle.hall_write.proofs.Answers.{Asked, length_asked, long_buffer, no_length_asked, other_length, all_written}
use Rattle.hall_write.proofs.write_halls.Goals as goal

-- the outermost number is written where the entries are to begin
record First (outer : ℕ) (kinds values out : List ℕ) (first : Option ℕ) (stored : List ℕ) : Type 0 where
  place : first ≡ Some (length (written_number outer))
  stores : stored ≡ sets out 0 (written_number outer)
  room : length (written_number outer) + length (written_entries (pairs kinds values)) ≤ length out

module _ (outer : ℕ) (kinds values : List ℕ) (n : ℕ) (known : Asked outer kinds values n) where
  outer_fits : outer ≤ max_number
  outer_fits = (lists_known outer kinds values known.ok).outer_fits

  -- past the test of the length, after the outermost number was written
  first_written : (out : List ℕ) → n ≡ length out → (first : Option ℕ) (stored : List ℕ)
      → (first ≡ unless_zero (written_past 0 outer (length out))) × (stored ≡ number_written 0 outer out) → First outer kinds values out first stored
  first_written out m first stored w =
      let all : length (written_number outer) + length (written_entries (pairs kinds values)) ≡ length out =
      omega (arith, halls_length outer (pairs kinds values), known.is) in
      let room : 0 + length (written_number outer) ≤ length out = omega arith in
      let k : 0 + length (written_number outer) ≡ length (written_number outer) = omega arith in
      record { place = rw k at (w.0 ∙ past_some 0 outer outer_fits out room); stores = w.1 ∙ is_written 0 outer outer_fits out room; room = omega arith }

pub returns-then-out-gt-MAX_PLAN : goal.returns-then-out-gt-MAX_PLAN
returns-then-out-gt-MAX_PLAN c =
    let a = c.args in
    long_buffer a.outer a.kinds.now a.values.now a.out.now c.if-out-gt-MAX_PLAN.true

pub returns-in_default : goal.returns-in_default
returns-in_default c =
    let a = c.args in
    no_length_asked a.outer a.kinds.now a.values.now _ c.in_default.ensures a.out.now c.if-out-gt-MAX_PLAN.false

pub returns-then-needed-out : goal.returns-then-needed-out
returns-then-needed-out c =
    let a = c.args in
    let n = c.in-Ok.needed in
    let known = length_asked a.outer a.kinds.now a.values.now n c.in-Ok.ensures in
    other_length a.outer a.kinds.now a.values.now n known a.out.now c.if-out-gt-MAX_PLAN.false c.if-needed-out.true

pub overflow_cast-outer : goal.overflow_cast-outer
overflow_cast-outer c =
    let a = c.args in
    let known = length_asked a.outer a.kinds.now a.values.now c.in-Ok.needed c.in-Ok.ensures in
    omega (arith, outer_fits a.outer a.kinds.now a.values.now c.in-Ok.needed known)

pub unwrap-first-requires : goal.unwrap-first-requires
unwrap-first-requires c =
    let a = c.args in
    let n = c.in-Ok.needed in
    let known = length_asked a.outer a.kinds.now a.values.now n c.in-Ok.ensures in
    let f = first_written a.outer a.kinds.now a.values.now n known a.out.now c.if-needed-out.false _ _ c.write_number.ensures in
    search (rules, f.place)

pub put_entries-requires : goal.put_entries-requires
put_entries-requires c =
    let a = c.args in
    let n = c.in-Ok.needed in
    let known = length_asked a.outer a.kinds.now a.values.now n c.in-Ok.ensures in
    let f = first_written a.outer a.kinds.now a.values.now n known a.out.now c.if-needed-out.false _ _ c.write_number.ensures in
    let place : c.unwrap-first.result ≡ length (written_number a.outer) = cc (f.place, c.unwrap-first.ensures) in
    record { lists = lists_fit_lem a.outer a.kinds.now a.values.now known.ok; room = omega (arith, f.room, place, c.write_number.auto.out) }

pub returns : goal.returns
returns c =
    let a = c.args in
    let n = c.in-Ok.needed in
    let known = length_asked a.outer a.kinds.now a.values.now n c.in-Ok.ensures in
    let f = first_written a.outer a.kinds.now a.values.now n known a.out.now c.if-needed-out.false _ _ c.write_number.ensures in
    let place : c.unwrap-first.result ≡ length (written_number a.outer) = cc (f.place, c.unwrap-first.ensures) in
    all_written a.outer a.kinds.now a.values.now n known a.out.now _ _ c.if-needed-out.false f.stores
    (c.put_entries.ensures ∙ ap (λ (m : ℕ). sets c.write_number.new.out m (written_entries (pairs a.kinds.now a.values.now))) place)
