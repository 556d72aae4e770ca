-- An ask that finds a row is of a walk with the number 0, which it keeps with the place; any other stays where it is.
use mathlib.Core.Path.{◌≡◌, refl, sym}
use Prim.Native.Nat.{ℕ, zero, suc}
use lib.ListN.{drop}
use Rattle.answers.specs.Done.{if_done}
use Rattle.plan_read.specs.Plan.{plan_number, row_answer}
use Rattle.std.specs.Prelude.{Result, Ok, Err}
use Rattle.answers.specs.declared.Malformed.{Malformed}
use Rattle.plan_read.specs.declared.Row.{Row}
use Rattle.plan_walk.specs.Walk.{stay, asked, walk_step}
use Rattle.plan_walk.specs.declared.Cursor.{Cursor}
use Rattle.c_plan.specs.Walk.{KeepsRefusal}

kept : (k : ℕ) (r : Result Row Malformed) (c : Cursor) → c.number ≡ k
    → let a = if_done k (asked c r) (stay k c.place c) in a.next ≡ record { at = a.next.at; number = c.number; place = c.place }
kept zero (Ok row) c e = λ i. record { at = row.end; number = sym e i; place = c.place }
kept zero (Err bad) c e = refl
kept (suc k) r c e = refl

pub keeps_refusal : KeepsRefusal
unfolding walk_step
keeps_refusal s c = kept c.number (row_answer c.at (plan_number c.at (drop c.at s))) c refl
