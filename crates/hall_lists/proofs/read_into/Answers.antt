-- What is answered of the plan says whether it is refused; lists of another length are refused before the first store; else the stores are the entries.
use Rattle.std.proofs.lemmas.Result.{err_from_is_err_and}
use Rattle.hall_lists.proofs.Into.{read_refused, other_kinds, other_values, room, filled}
use Rattle.hall_lists.proofs.read_into.Goals as goal

pub returns-in_err-counts : goal.returns-in_err-counts
returns-in_err-counts c =
    let p = err_from_is_err_and c.from_residual.result c.from_residual.ensures.1 in
    rw (p.1, p.2) (read_refused _ _ _ _ c.in_err-counts.ensures)

pub returns-then-kinds-counts : goal.returns-then-kinds-counts
returns-then-kinds-counts c = other_kinds _ _ _ _ c.in_ok-counts.ensures c.if-kinds-counts.true

pub returns-then-values-counts : goal.returns-then-values-counts
returns-then-values-counts c = other_values _ _ _ _ c.in_ok-counts.ensures c.if-kinds-counts.false c.if-values-counts.true

pub fill_lists-requires : goal.fill_lists-requires
fill_lists-requires c = room _ _ _ _ c.in_ok-counts.ensures c.if-kinds-counts.false c.if-values-counts.false _ c.entries_start.ensures

pub returns : goal.returns
returns c =
    filled _ _ _ _ c.in_ok-counts.ensures c.if-kinds-counts.false c.if-values-counts.false _ c.entries_start.ensures _ _ c.fill_lists.ensures
