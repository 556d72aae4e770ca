-- The first row stands after the number of rows.
use Rattle.plan_walk.proofs.Walking.{start_done}
use Rattle.plan_walk.proofs.start_at.Goals as goal

pub returns-in-Ok : goal.returns-in-Ok
returns-in-Ok c = start_done c.args.plan.now c.read_plan.result c.read_plan.ensures c.in-Ok.field-0 c.first_row.result c.in-Ok.is c.first_row.ensures
