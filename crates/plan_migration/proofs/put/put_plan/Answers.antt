-- The plan can be read, so that its first number is there; the stores of that number and of the rows are the whole plan.
-- There is room for both, since the plan fills the buffer.
use Rattle.std.proofs.Common.{rules, ◌≡◌, refl, ◌∙◌, ℕ, ◌+◌, ◌≤◌, List, length, drop, arith, Option, Some, Result, Ok, Err, IsOk}
use Rattle.std.proofs.lemmas.List.Edits.{sets}
use Rattle.answers.specs.declared.Malformed.{Malformed}
use Rattle.leb128.specs.Answers.{ReadsNumber}
use Rattle.leb128.specs.Number.{max_number}
use Rattle.leb128.specs.declared.Number.{Number}
use Rattle.leb128_write.specs.Written.{written_number}
use Rattle.leb128_write.specs.Answers.{written_past, number_written, unless_zero}
use Rattle.leb128_write.proofs.Laws.{past_some, is_written}
use Rattle.old_number.specs.OldNumber.{old_number}
use Rattle.plan_read.specs.Plan.{rows_by}
use Rattle.plan_length.specs.Length.{written_rows}
use Rattle.plan_migration.specs.Migration.{old_plan_of}
use Rattle.plan_migration.specs.Room.{PlanRoom, destinations_in}
use Rattle.plan_migration.proofs.Stores.{room_moved, PlanParts, none_read, plan_parts, plan_stored}
use Rattle.plan_migration.proofs.put.put_plan.Goals as goal

first_there : (s : List ℕ) (n : ℕ) → PlanRoom (old_plan_of s) n → (r : Result Number Malformed) → ReadsNumber (old_number 0 (drop 0 s)) r → IsOk r
first_there s n u (Ok r) h = search rules
first_there s n u (Err e) h = absurd (none_read s n u (Err e) h e refl)

-- the number of rows is written where the rows are to begin
record Counted (count : ℕ) (out : List ℕ) (begin : Option ℕ) (stored : List ℕ) : Type 0 where
  place : begin ≡ Some (length (written_number count))
  stores : stored ≡ sets out 0 (written_number count)

count_written : (s out : List ℕ) (v next : ℕ) → PlanParts s (length out) v next → (begin : Option ℕ) (stored : List ℕ)
    → (begin ≡ unless_zero (written_past 0 v (length out))) × (stored ≡ number_written 0 v out) → Counted v out begin stored
count_written s out v next p begin stored e =
    let small : v ≤ max_number = omega (arith, p.small) in
    let room : 0 + length (written_number v) ≤ length out = omega (arith, p.first_room) in
    let k : 0 + length (written_number v) ≡ length (written_number v) = omega arith in
    record { place = rw k at (e.0 ∙ past_some 0 v small out room); stores = e.1 ∙ is_written 0 v small out room }

pub unwrap-rows-requires : goal.unwrap-rows-requires
unwrap-rows-requires c = first_there c.args.plan.now (length c.args.out.now) c.requires c.old_number_at.result c.old_number_at.ensures

pub unwrap-start-requires : goal.unwrap-start-requires
unwrap-start-requires c =
    let s = c.args.plan.now in
    let out = c.args.out.now in
    let r = c.unwrap-rows.result in
    let p = plan_parts s (length out) c.requires c.old_number_at.result c.old_number_at.ensures r.value r.next c.unwrap-rows.ensures in
    let n = count_written s out r.value r.next p _ _ c.write_number.ensures in
    search (rules, n.place)

pub put_rows-requires : goal.put_rows-requires
put_rows-requires c =
    let s = c.args.plan.now in
    let out = c.args.out.now in
    let r = c.unwrap-rows.result in
    let p = plan_parts s (length out) c.requires c.old_number_at.result c.old_number_at.ensures r.value r.next c.unwrap-rows.ensures in
    let n = count_written s out r.value r.next p _ _ c.write_number.ensures in
    let place : c.unwrap-start.result ≡ length (written_number r.value) = search (rules, n.place) in
    room_moved (rows_by old_number r.value r.next (drop r.next s)) _ _ _ _ place c.write_number.auto.out p.rows_room

pub returns : goal.returns
returns c =
    let s = c.args.plan.now in
    let out = c.args.out.now in
    let r = c.unwrap-rows.result in
    let p = plan_parts s (length out) c.requires c.old_number_at.result c.old_number_at.ensures r.value r.next c.unwrap-rows.ensures in
    let n = count_written s out r.value r.next p _ _ c.write_number.ensures in
    let place : c.unwrap-start.result ≡ length (written_number r.value) = search (rules, n.place) in
    plan_stored out c.write_number.new.out _ c.unwrap-start.result (written_number r.value)
    (written_rows (destinations_in (rows_by old_number r.value r.next (drop r.next s)))) _ n.stores c.put_rows.ensures place p.joined p.fills
