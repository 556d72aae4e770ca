-- What holds of a walk over every number of asks, from what `new` and `next` promise: the walker made of a lent plan, and each ask of it where the ask
-- before left it.
use Rattle.std.specs.Prelude.{◌≡◌, List, [], ◌∷◌, map, cond, ℕ, zero, suc, take, eqb}
use Rattle.std.specs.Borrow.{Bor}
use Rattle.answers.specs.Numbers.{done}
use Rattle.plan_read.specs.Plan.{Plan, rows, refused, plan_of}
use Rattle.plan.specs.Answers.{summary_of, lookup_of}
use Rattle.plan_read.specs.declared.Row.{Row}
use Rattle.plan.specs.declared.Lookup.{Lookup}
use Rattle.plan_walk.specs.Walk.{walk_start}
use Rattle.plan_walker.specs.Walker.{walker_at, asks, moved}
use Rattle.plan_walk.specs.declared.WalkAnswer.{WalkAnswer}
use Rattle.plan_walker.specs.declared.Walker.{Walker}

abbrev pub walker_of : Bor (List ℕ) → Walker
walker_of plan = walker_at plan (walk_start plan.now)

-- a walker after k asks
unfoldable pub after_asks : ℕ → Walker → Walker
after_asks zero w = w
after_asks (suc k) w = after_asks k (moved w (asks w).next)

-- an answer without where the walk stands next
abbrev pub answer_lookup : WalkAnswer → Lookup
answer_lookup a = record { number = a.number; destination = a.destination; place = a.place }

-- the destinations that k asks hand out
unfoldable pub walked_out : ℕ → Walker → List ℕ
walked_out zero w = []
walked_out (suc k) w =
    cond (eqb (asks w).number done) ((asks w).destination ∷ walked_out k (moved w (asks w).next)) (walked_out k (moved w (asks w).next))

-- the rows' destinations in order, none of a refused plan
abbrev pub destinations_of : Plan → List ℕ
destinations_of (rows l) = map (λ (r : Row). r.destination) l
destinations_of (refused n place) = []

pub record Walks (plan : Bor (List ℕ)) (k : ℕ) : Type 0 where
  -- the (k + 1)th ask answers as the lookup of chute k + 1, whatever the plan is
  pub answers : answer_lookup (asks (after_asks k (walker_of plan))) ≡ lookup_of plan.now (suc k)
  -- k asks hand out the first k destinations of the plan's rows, in order
  pub destinations : walked_out k (walker_of plan) ≡ take k (destinations_of (plan_of plan.now))
  -- an ask that hands out nothing leaves the walker as it was
  pub stays : ((asks (after_asks k (walker_of plan))).number ≡ done → ⊥) → (asks (after_asks k (walker_of plan))).next ≡ (after_asks k (walker_of plan)).cursor
  -- the walker keeps the lent plan, its number and its place, and on a refused plan it stands at 0
  pub keeps : (after_asks k (walker_of plan)).plan ≡ plan
  pub number : (after_asks k (walker_of plan)).cursor.number ≡ (summary_of plan.now).number
  pub place : (after_asks k (walker_of plan)).cursor.place ≡ (summary_of plan.now).place
  pub refused_at : ((summary_of plan.now).number ≡ done → ⊥) → (after_asks k (walker_of plan)).cursor.at ≡ 0

abbrev pub WalksWhole : Type 0
WalksWhole = (plan : Bor (List ℕ)) (k : ℕ) → Walks plan k
