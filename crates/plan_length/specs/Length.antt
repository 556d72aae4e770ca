-- A plan written (docs/RULES.md, 'Chute plan'): the number of rows, then each row's destination, each in the fewest groups; and how long it is. Rows that
-- break the plan's rules have no length, and are refused with 9.
use Rattle.std.specs.Prelude.{ℕ, List, [], ◌∷◌, ◌++◌, Bool, true, cond, ◌&&◌, Result, Ok, Err, leb, length}
use Rattle.answers.specs.Numbers.{done, malformed_plan}
use Rattle.answers.specs.Breaches.{no_place}
use Rattle.answers.specs.Places.{plan_refusal_number, plan_refusal_place}
use Rattle.answers.specs.declared.PlanRefusal.{PlanRefusal}
use Rattle.leb128_write.specs.Written.{written_number}
use Rattle.plan_read.specs.Limits.{max_rows, max_destination}
use Rattle.plan_length.specs.declared.PlanLength.{PlanLength}
use Rattle.plan_length.specs.declared.PlanWritten.{PlanWritten}

unfoldable pub written_rows : List ℕ → List ℕ
written_rows [] = []
written_rows (v ∷ l) = written_number v ++ written_rows l

unfoldable pub written_plan : List ℕ → List ℕ
written_plan l = written_number (length l) ++ written_rows l

-- every destination fits three groups
unfoldable pub rows_allowed : List ℕ → Bool
rows_allowed [] = true
rows_allowed (v ∷ l) = leb v max_destination && rows_allowed l

-- the plan's rules: at most 4,096 rows, each of which fits
unfoldable pub allowed : List ℕ → Bool
allowed l = leb (length l) max_rows && rows_allowed l

-- the length of a plan: 0 and the length, or the refusal n and its place, which is none where no plan is read
abbrev pub length_is : ℕ → PlanLength
length_is n = record { number = done; length = n; place = no_place }

abbrev pub refused_length : ℕ → ℕ → PlanLength
refused_length n place = record { number = n; length = 0; place = place }

abbrev pub no_length : PlanLength
no_length = refused_length malformed_plan no_place

unfoldable pub length_of : List ℕ → PlanLength
length_of l = cond (allowed l) (length_is (length (written_plan l))) no_length

-- the answer of writing a plan, flat or of halls, by its number
abbrev pub write_answer : ℕ → PlanWritten
write_answer n = record { number = n; place = no_place }

-- the code's answers as C has them
abbrev pub length_from : Result ℕ PlanRefusal → PlanLength
length_from (Ok n) = length_is n
length_from (Err e) = refused_length (plan_refusal_number e) (plan_refusal_place e)

abbrev pub written_from : Result (Unit {0}) PlanRefusal → PlanWritten
written_from (Ok u) = write_answer done
written_from (Err e) = record { number = plan_refusal_number e; place = plan_refusal_place e }
