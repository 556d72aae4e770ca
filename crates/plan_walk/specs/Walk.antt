-- Walking over a plan's rows (docs/RULES.md, 'Chute plan', the walker). Each answer is set out by the cases of what the row reader finds. Where a walk stands
-- is `at`; `place` is where its plan is malformed.
use Rattle.std.specs.Prelude.{ℕ, List, drop, Result, Ok, Err}
use Rattle.answers.specs.Numbers.{done, no_such_chute}
use Rattle.answers.specs.Done.{if_done}
use Rattle.answers.specs.Breaches.{no_place}
use Rattle.leb128.specs.Number.{Parsed, value, bad}
use Rattle.plan_read.specs.Plan.{plan_number, row_answer}
use Rattle.plan.specs.Answers.{summary_of}
use Rattle.plan_read.specs.declared.Row.{Row}
use Rattle.answers.specs.declared.Malformed.{Malformed}
use Rattle.plan_walk.specs.declared.Cursor.{Cursor}
use Rattle.plan_walk.specs.declared.WalkAnswer.{WalkAnswer}

-- where a number ends, 0 where there is none
abbrev pub past_number : Parsed → ℕ
past_number (value v next rest) = next
past_number (bad place) = 0

-- the first row stands after the number of rows
abbrev pub first_row_at : List ℕ → ℕ
first_row_at s = past_number (plan_number 0 s)

-- the start: at the first row; or at 0 with the plan's refusal and place
unfoldable pub walk_start : List ℕ → Cursor
walk_start s = record { at = if_done (summary_of s).number (first_row_at s) 0; number = (summary_of s).number; place = (summary_of s).place }

-- an ask that hands out nothing: the walk stays where it stands
abbrev pub stay : ℕ → ℕ → Cursor → WalkAnswer
stay n place c = record { number = n; destination = 0; place = place; next = c }

-- an ask: the row's destination, and then the walk stands past the row; or 10 where there is no row
abbrev pub asked : Cursor → Result Row Malformed → WalkAnswer
asked c (Ok row) =
    record { number = done; destination = row.destination; place = no_place; next = record { at = row.end; number = done; place = c.place } }
asked c (Err e) = stay no_such_chute no_place c

-- on a refused plan every ask answers the plan's number and place
unfoldable pub walk_step : List ℕ → Cursor → WalkAnswer
walk_step s c = if_done c.number (asked c (row_answer c.at (plan_number c.at (drop c.at s)))) (stay c.number c.place c)
