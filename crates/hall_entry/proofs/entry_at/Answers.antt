-- The entry hangs on the number of its kind: none, one that may not stand here, and one that may, with its value.
use Rattle.std.proofs.lemmas.Result.{err_from_is_err_and}
use Rattle.hall_entry.proofs.Answers.{no_kind, other_kind, allowed}
use Rattle.hall_entry.proofs.entry_at.Goals as goal

pub returns-in_err-value : goal.returns-in_err-value
returns-in_err-value c =
    let a = c.args in
    let p = err_from_is_err_and c.from_residual.result c.from_residual.ensures.1 in
    rw (p.1, p.2) (no_kind a.plan.now 1 0 a.at _ c.in_err-value.ensures)

pub returns-in-Some : goal.returns-in-Some
returns-in-Some c =
    let a = c.args in
    allowed a.plan.now 1 0 a.at _ c.in_ok-value.ensures c.in-Some.kind _ c.in-Some.ensures c.entry_of_kind.ensures

pub returns-in-None : goal.returns-in-None
returns-in-None c =
    let a = c.args in
    other_kind a.plan.now 1 0 a.at _ c.in_ok-value.ensures c.in-None.ensures
