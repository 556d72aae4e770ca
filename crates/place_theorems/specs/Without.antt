-- The answers on plans without their place: the number, then the other fields. And what they are by what reading a plan whole finds, its place left out.
use Rattle.std.specs.Prelude.{ℕ, zero, suc, ◌-◌, List, cond, ltb, eqb, length, get_or, drop, Option, Some, None, Result, Ok, Err}
use Rattle.answers.specs.Numbers.{done, input_too_long, malformed_plan, no_such_chute}
use Rattle.answers.specs.Done.{if_done}
use Rattle.plan_read.specs.Limits.{max_plan}
use Rattle.plan_read.specs.Plan.{Plan, rows, refused, no_row, row_at, row_answer, plan_number, plan_of}
use Rattle.plan_read.specs.declared.Row.{Row}
use Rattle.answers.specs.declared.Malformed.{Malformed}
use Rattle.plan.specs.Answers.{ChuteRow, has_chute}
use Rattle.plan.specs.declared.PlanSummary.{PlanSummary}
use Rattle.plan.specs.declared.Lookup.{Lookup}
use Rattle.plan_pair.specs.Pair.{Location, plan_refusal, smaller_of}
use Rattle.plan_pair.specs.declared.Source.{Source}
use Rattle.plan_pair.specs.declared.Source.TheVariants.{Site, House}
use Rattle.plan_walk.specs.Walk.{first_row_at}
use Rattle.plan_walk.specs.declared.Cursor.{Cursor}
use Rattle.plan_walk.specs.declared.WalkAnswer.{WalkAnswer}
use Rattle.plan_length.specs.Length.{written_plan, allowed}
use Rattle.plan_length.specs.declared.PlanLength.{PlanLength}
use Rattle.hall_entry.specs.Entries.{destinations}
use Rattle.hall_read.specs.Halls as Halls
use Rattle.hall.specs.declared.HallSummary.{HallSummary}
use Rattle.hall_lists.specs.Lists.{lists_fit}
use Rattle.hall_check.specs.Lists.{pairs, lists_allowed}
use Rattle.hall_length.specs.Written.{written_halls}

-- reading: the number of rows
abbrev pub summary_without : PlanSummary → ℕ × ℕ
summary_without a = (a.number, a.rows)

abbrev pub summary_by : Plan → ℕ × ℕ
summary_by (rows l) = (done, length l)
summary_by (refused n place) = (n, 0)

-- the row of a chute
abbrev pub row_without : ChuteRow → ℕ × Row
row_without a = (a.number, a.row)

abbrev pub row_by : ℕ → Plan → ℕ × Row
row_by chute (rows l) = cond (has_chute (length l) chute) (done, row_at chute l) (no_such_chute, no_row)
row_by chute (refused n place) = (n, no_row)

-- the destination of a chute, in a flat plan and in a hall plan
abbrev pub lookup_without : Lookup → ℕ × ℕ
lookup_without a = (a.number, a.destination)

abbrev pub lookup_by : ℕ → Plan → ℕ × ℕ
lookup_by chute p = let r = row_by chute p in (r.0, r.1.destination)

abbrev pub lookup_in_by : List ℕ → ℕ → ℕ × ℕ
lookup_in_by l zero = (no_such_chute, 0)
lookup_in_by l (suc c) = cond (ltb c (length l)) (done, get_or l c 0) (no_such_chute, 0)

abbrev pub hall_lookup_by : ℕ → Halls.HallPlan → ℕ × ℕ
hall_lookup_by chute (Halls.halls outer l) = lookup_in_by (destinations l) chute
hall_lookup_by chute (Halls.refused n place) = (n, 0)

-- where a chute's row is in two plans: the plan, the row's start and its length
abbrev pub Located : Type 0
Located = ℕ × (Option Source × (ℕ × ℕ))

abbrev pub location_without : Location → Located
location_without a = (a.number, (a.source, (a.start, a.length)))

abbrev pub found_by : Source → Row → Located
found_by source r = (done, (Some source, (r.start, r.end - r.start)))

abbrev pub nowhere_by : ℕ → Located
nowhere_by n = (n, (None, (0, 0)))

abbrev pub location_by : (ℕ × Row) → (ℕ × Row) → Located
location_by site house =
    let n = smaller_of (plan_refusal site.0) (plan_refusal house.0) in
    cond (eqb n done)
    (cond (eqb site.0 done) (found_by Site site.1) (cond (eqb house.0 done) (found_by House house.1) (nowhere_by no_such_chute)))
    (nowhere_by n)

-- a walk: its number and where it stands; and an ask's number, destination, and the walk after it
abbrev pub cursor_without : Cursor → ℕ × ℕ
cursor_without c = (c.number, c.at)

abbrev pub start_by : List ℕ → ℕ × ℕ
start_by s = let n = (summary_by (plan_of s)).0 in (n, if_done n (first_row_at s) 0)

abbrev pub walk_without : WalkAnswer → ℕ × (ℕ × (ℕ × ℕ))
walk_without a = (a.number, (a.destination, cursor_without a.next))

abbrev pub asked_by : (ℕ × ℕ) → Result Row Malformed → ℕ × (ℕ × (ℕ × ℕ))
asked_by c (Ok row) = (done, (row.destination, (done, row.end)))
asked_by c (Err e) = (no_such_chute, (0, c))

abbrev pub step_by : List ℕ → (ℕ × ℕ) → ℕ × (ℕ × (ℕ × ℕ))
step_by s c = if_done c.0 (asked_by c (row_answer c.1 (plan_number c.1 (drop c.1 s)))) (c.0, (0, c))

-- what a hall plan has: the outermost number of entries, how many entries and how many chutes; and the same from reading it into lists of n and m elements
abbrev pub hall_without : HallSummary → ℕ × (ℕ × (ℕ × ℕ))
hall_without a = (a.number, (a.outer, (a.entries, a.chutes)))

abbrev pub hall_by : Halls.HallPlan → ℕ × (ℕ × (ℕ × ℕ))
hall_by (Halls.halls outer l) = (done, (outer, (length l, length (destinations l))))
hall_by (Halls.refused n place) = (n, (0, (0, 0)))

abbrev pub lists_by : ℕ → ℕ → Halls.HallPlan → ℕ × (ℕ × (ℕ × ℕ))
lists_by n m (Halls.halls outer l) = cond (lists_fit (length l) n m) (hall_by (Halls.halls outer l)) (malformed_plan, (0, (0, 0)))
lists_by n m (Halls.refused r place) = hall_by (Halls.refused r place)

-- how long a plan is
abbrev pub length_without : PlanLength → ℕ × ℕ
length_without a = (a.number, a.length)

abbrev pub length_by : List ℕ → ℕ × ℕ
length_by l = cond (allowed l) (done, length (written_plan l)) (malformed_plan, 0)

abbrev pub hall_length_by : ℕ → List ℕ → List ℕ → ℕ × ℕ
hall_length_by outer kinds values =
    let n = length (written_halls outer (pairs kinds values)) in
    cond (lists_allowed outer kinds values) (cond (ltb max_plan n) (input_too_long, 0) (done, n)) (malformed_plan, 0)
