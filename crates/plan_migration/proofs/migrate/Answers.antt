-- The length asked first says whether the plan can be read; where it can and fills the buffer, the stores are the whole plan.
-- Every refusal stands before the first store.
use Rattle.std.proofs.Common.{rules, ◌≡◌, ℕ, List, length}
use Rattle.old_number.specs.OldNumber.{old_number}
use Rattle.plan_read.specs.Laws.Refusals.{numbered_by}
use Rattle.plan_length.specs.Length.{length_is}
use Rattle.plan_length.specs.declared.PlanLength.{PlanLength}
use Rattle.plan_length.specs.declared.PlanWritten.{PlanWritten}
use Rattle.plan_migration.specs.Migration.{old_plan_of, migrated_length_of, migrated_length, Migrates}
use Rattle.plan_migration.specs.Room.{PlanRoom}
use Rattle.plan_migration.proofs.Answers.{Migrated, no_length_lem, other_buffer, plan_room, filled}
use Rattle.plan_migration.proofs.migrate.Goals as goal

-- the length, by what was read
asked : (s : List ℕ) (a : PlanLength) → a ≡ migrated_length_of s → a ≡ migrated_length (old_plan_of s)
unfolding migrated_length_of
asked s a e = e

migrates : (s out after : List ℕ) (r : PlanWritten) → Migrated (old_plan_of s) out after r → Migrates s out after r
migrates s out after r m = record { answer = m.answer; buffer = m.buffer }

-- past both tests the plan fills the buffer
room : (s out : List ℕ) (n : ℕ) → length_is n ≡ migrated_length_of s → n ≡ length out → PlanRoom (old_plan_of s) (length out)
room s out n e l = plan_room out n (old_plan_of s) (numbered_by old_number s) (asked s (length_is n) e) l

pub returns-in_err-needed : goal.returns-in_err-needed
returns-in_err-needed c =
    let s = c.args.plan.now in
    let f = migrates s _ _ _ (no_length_lem c.args.out.now (old_plan_of s) c.in_err-needed.field-0.0 (asked s _ c.in_err-needed.ensures)) in
    search (rules, f)

pub returns-then-needed-out : goal.returns-then-needed-out
returns-then-needed-out c =
    let s = c.args.plan.now in
    let n = c.in_ok-needed.needed in
    migrates s _ _ _ (other_buffer c.args.out.now n (old_plan_of s) (numbered_by old_number s) (asked s (length_is n) c.in_ok-needed.ensures)
    c.if-needed-out.true)

pub put_plan-requires : goal.put_plan-requires
put_plan-requires c = room c.args.plan.now c.args.out.now c.in_ok-needed.needed c.in_ok-needed.ensures c.if-needed-out.false

pub returns : goal.returns
returns c =
    let s = c.args.plan.now in
    let out = c.args.out.now in
    rw c.put_plan.ensures
    (migrates s _ _ _ (filled (old_plan_of s) out (room s out c.in_ok-needed.needed c.in_ok-needed.ensures c.if-needed-out.false)))
