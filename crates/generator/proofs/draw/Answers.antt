use Rattle.std.proofs.Common.{◌≡◌, length, sym, rules}
use Rattle.seeding.specs.Seeding.{key_bytes}
use Rattle.generator.proofs.Done.{draw_refused, draw_done}
use Rattle.generator.proofs.draw.Goals as goal

pub returns-in-Err : goal.returns-in-Err
returns-in-Err c =
    let a = c.args in
    rw c.refused.ensures (draw_refused a.drng a.generator a.additional.now a.out.now c.in-Err.refusal (sym c.in-Err.ensures))

pub returns-in-Ok : goal.returns-in-Ok
returns-in-Ok c =
    let a = c.args in
    let size : length a.generator.key ≡ key_bytes = search rules in
    let all = c.draw_pieces-last in
    rw (c.accepted.ensures, c.piece_runs.ensures, c.piece_count.ensures)
    (draw_done a.drng a.generator a.additional.now a.out.now _ (sym c.in-Ok.ensures) all.result all.new.out size all.ensures.0 all.ensures.1)
