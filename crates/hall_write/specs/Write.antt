-- Writing a hall plan into a lent buffer (docs/RULES.md, 'Hall plan'). A buffer of more than 65,536 bytes is refused with 5; an outermost number and lists that
-- break the rules, or do not fill the buffer exactly, with 9; and then nothing is written.
use Rattle.std.specs.Prelude.{ℕ, ◌≡◌, List, Bool, cond, ◌&&◌, ltb, eqb, length}
use Rattle.answers.specs.Numbers.{done, input_too_long, malformed_plan}
use Rattle.plan_read.specs.Limits.{max_plan}
use Rattle.plan_length.specs.Length.{write_answer}
use Rattle.plan_length.specs.declared.PlanWritten.{PlanWritten}
use Rattle.hall_check.specs.Lists.{pairs, lists_allowed}
use Rattle.hall_length.specs.Written.{written_halls}

-- they keep the rules and fill n bytes exactly
unfoldable pub halls_fill : ℕ → List ℕ → List ℕ → ℕ → Bool
halls_fill outer kinds values n = lists_allowed outer kinds values && eqb (length (written_halls outer (pairs kinds values))) n

unfoldable pub hall_write_refusal : ℕ → List ℕ → List ℕ → ℕ → ℕ
hall_write_refusal outer kinds values n = cond (ltb max_plan n) input_too_long (cond (halls_fill outer kinds values n) done malformed_plan)

-- what the lent buffer holds afterwards: the hall plan, or what it held before
unfoldable pub hall_written_of : ℕ → List ℕ → List ℕ → List ℕ → List ℕ
hall_written_of outer kinds values out =
    cond (ltb max_plan (length out)) out (cond (halls_fill outer kinds values (length out)) (written_halls outer (pairs kinds values)) out)

-- writing them into a lent buffer answers r, and leaves `after` in it
pub record WritesHalls (outer : ℕ) (kinds values out after : List ℕ) (r : PlanWritten) : Type 0 where
  pub answer : r ≡ write_answer (hall_write_refusal outer kinds values (length out))
  pub buffer : after ≡ hall_written_of outer kinds values out
