-- An ask's answer as C has it: of the next cursor only where the walk stands, since its number and its place are those of the cursor before.
use Rattle.std.specs.Prelude.{◌≡◌, List, ℕ}
use Rattle.plan_walk.specs.Walk.{walk_step}
use Rattle.plan_walk.specs.declared.Cursor.{Cursor}
use Rattle.plan_walk.specs.declared.WalkAnswer.{WalkAnswer}
use Rattle.c_plan.specs.declared.CWalk.{CWalk}

abbrev pub exported_answer : WalkAnswer → CWalk
exported_answer a = record { next = a.next.at; destination = a.destination; place = a.place; number = a.number }

-- So C moves the walk on and nothing else: the cursor after an ask has the number and the place from before. proofs/Walks.antt proves it.
abbrev pub KeepsRefusal : Type 0
KeepsRefusal =
    (s : List ℕ) (c : Cursor) → (walk_step s c).next ≡ record { at = (exported_answer (walk_step s c)).next; number = c.number; place = c.place }
