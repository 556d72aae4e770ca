-- Writing a plan into a lent buffer (docs/RULES.md, 'Chute plan'). Rows that break the plan's rules or don't fill the buffer exactly are refused with 9, and
-- nothing is written.
use Rattle.std.specs.Prelude.{ℕ, ◌≡◌, List, Bool, cond, ◌&&◌, eqb, length}
use Rattle.answers.specs.Numbers.{done, malformed_plan}
use Rattle.plan_length.specs.Length.{written_plan, allowed, write_answer}
use Rattle.plan_length.specs.declared.PlanWritten.{PlanWritten}

-- rows keep the rules and fill n bytes exactly
unfoldable pub fills : List ℕ → ℕ → Bool
fills l n = allowed l && eqb (length (written_plan l)) n

unfoldable pub write_refusal : List ℕ → ℕ → ℕ
write_refusal l n = cond (fills l n) done malformed_plan

-- what the lent buffer holds afterwards: the plan, or what it held before
unfoldable pub written_of : List ℕ → List ℕ → List ℕ
written_of l out = cond (fills l (length out)) (written_plan l) out

-- writing these rows into a lent buffer answers r, and leaves `after` in it
pub record WritesPlan (l out after : List ℕ) (r : PlanWritten) : Type 0 where
  pub answer : r ≡ write_answer (write_refusal l (length out))
  pub buffer : after ≡ written_of l out
