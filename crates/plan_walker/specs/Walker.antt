-- The walker (docs/RULES.md, 'Chute plan'): the lent plan itself, and where the walk over it stands.
use Rattle.std.specs.Prelude.{List, ℕ}
use Rattle.std.specs.Borrow.{Bor}
use Rattle.plan_walk.specs.Walk.{walk_step}
use Rattle.plan_walk.specs.declared.Cursor.{Cursor}
use Rattle.plan_walk.specs.declared.WalkAnswer.{WalkAnswer}
use Rattle.plan_walker.specs.declared.Walker.{Walker}

-- a walker of a lent plan, at a cursor
abbrev pub walker_at : Bor (List ℕ) → Cursor → Walker
walker_at plan c = record { plan = plan; cursor = c }

-- what an ask of it answers
abbrev pub asks : Walker → WalkAnswer
asks w = walk_step w.plan.now w.cursor

-- the same walker, standing elsewhere
abbrev pub moved : Walker → Cursor → Walker
moved w c = record { plan = w.plan; cursor = c }
