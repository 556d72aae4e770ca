-- The length asked first says how much of the buffer the migrated plan takes, and migrating into as much fills it or is refused.
-- Where the buffer has less, it is shorter than the plan.
use Rattle.std.proofs.Common.{refl, ap, arith}
use Rattle.plan_length.specs.declared.PlanLength.{PlanLength}
use Rattle.plan_write.proofs.Rows.{refusal_some}
use Rattle.plan_migrate.proofs.Output.{refused_none, no_room, nothing, whole}
use Rattle.plan_migrate.proofs.migrate.Goals as goal

pub returns-in_default : goal.returns-in_default
returns-in_default c = refused_none _ _ c.in_default.field-0 c.in_default.ensures

pub returns-then-out-length : goal.returns-then-out-length
returns-then-out-length c = no_room _ _ (omega (arith, c.if-out-length.true, ap (λ (q : PlanLength). q.length) c.in-Ok.ensures))

pub returns-in-Err : goal.returns-in-Err
returns-in-Err c = nothing _ _ _ _ _ (omega arith) (ap (λ (q : PlanLength). q.length) c.in-Ok.ensures) c.in-Err.ensures (refusal_some c.in-Err.field-0)

pub returns-in-Ok-migrate : goal.returns-in-Ok-migrate
returns-in-Ok-migrate c = whole _ _ _ _ _ (omega arith) (ap (λ (q : PlanLength). q.length) c.in-Ok.ensures) c.in-Ok-migrate.ensures refl
