-- A long hall plan is refused before it is read. Else the plan hangs on its outermost number, and then on where the pass over its entries came to.
use Rattle.std.proofs.Common.{Ok, Err}
use borrow.Author.Tests.{lt-ltb, le-ltb}
use Rattle.std.proofs.lemmas.Result.{err_from_is_err_and}
use Rattle.hall_read.proofs.Whole.{whole_long, no_outer, read_end}
use Rattle.hall_read.proofs.read_whole.Goals as goal

pub returns-then-plan-gt-MAX_PLAN : goal.returns-then-plan-gt-MAX_PLAN
returns-then-plan-gt-MAX_PLAN c = whole_long _ _ c.if-plan-gt-MAX_PLAN.true

pub returns-in_err-outer : goal.returns-in_err-outer
returns-in_err-outer c =
    let p = err_from_is_err_and c.from_residual.result c.from_residual.ensures.1 in
    rw (p.1, p.2) (no_outer _ _ c.if-plan-gt-MAX_PLAN.false _ c.in_err-outer.ensures)

pub returns-in_err-end : goal.returns-in_err-end
returns-in_err-end c =
    let p = err_from_is_err_and c.from_residual-in_err-end.result c.from_residual-in_err-end.ensures.1 in
    rw (p.1, p.2) (read_end _ _ c.if-plan-gt-MAX_PLAN.false _ c.in_ok-outer.ensures (Err _) c.in_err-end.ensures)

pub returns-then-end-plan : goal.returns-then-end-plan
returns-then-end-plan c =
    rw (lt-ltb _ _ c.if-end-plan.true) at
    (read_end _ _ c.if-plan-gt-MAX_PLAN.false _ c.in_ok-outer.ensures (Ok _) c.in_ok-end.ensures)

pub returns : goal.returns
returns c =
    rw (le-ltb _ _ c.if-end-plan.false) at
    (read_end _ _ c.if-plan-gt-MAX_PLAN.false _ c.in_ok-outer.ensures (Ok _) c.in_ok-end.ensures)
