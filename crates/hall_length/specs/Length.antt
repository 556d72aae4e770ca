-- How long a hall plan is (docs/RULES.md, 'Hall plan'): 0 and the length; 9 where the outermost number and the lists break the rules, which have no length; 5
-- where they keep them and the plan would be longer than 65,536 bytes.
use Rattle.std.specs.Prelude.{ℕ, List, cond, ltb, length}
use Rattle.answers.specs.Numbers.{input_too_long}
use Rattle.answers.specs.Breaches.{no_place}
use Rattle.plan_read.specs.Limits.{max_plan}
use Rattle.plan_length.specs.Length.{length_is, refused_length, no_length}
use Rattle.plan_length.specs.declared.PlanLength.{PlanLength}
use Rattle.hall_check.specs.Lists.{pairs, lists_allowed}
use Rattle.hall_length.specs.Written.{written_halls}

abbrev pub too_long : PlanLength
too_long = refused_length input_too_long no_place

-- a length of n bytes, where a plan may have as many
abbrev pub length_within : ℕ → PlanLength
length_within n = cond (ltb max_plan n) too_long (length_is n)

unfoldable pub hall_length_of : ℕ → List ℕ → List ℕ → PlanLength
hall_length_of outer kinds values = cond (lists_allowed outer kinds values) (length_within (length (written_halls outer (pairs kinds values)))) no_length
