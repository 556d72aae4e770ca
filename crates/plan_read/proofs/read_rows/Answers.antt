-- After the last row the answer hangs on whether bytes are left; the laws of `keeping` say each case.
use Rattle.std.proofs.Common.{rules, ◌≡◌, sym, ap, ◌∙◌, ℕ, ◌-◌, drop, arith, Ok, Err}
use Rattle.plan_read.specs.Plan.{rows_from}
use Rattle.plan_read.proofs.Rows.{row_there, row_read, keeping_start, keeping_new, keeping_old, keeping_bad, keeping_over, keeping_done}
use Rattle.plan_read.proofs.read_rows.Goals as goal
use Rattle.plan_read.proofs.read_rows.Goals.{then-from-chute, else-from-chute}

pub loop-i-init : goal.loop-i-init
loop-i-init c =
    let a = c.args in
    let e : a.count - 0 ≡ a.count = omega arith in
    record { answer = rw e (keeping_start a.chute a.plan.now (rows_from a.count a.first (drop a.first a.plan.now))) }

pub returns-in_default : goal.returns-in_default
returns-in_default c =
    let l = c.loop-i in
    let e : c.row_at-read.result ≡ Err c.unwrap_err.result = search rules in
    let f = keeping_bad c.args.chute l.i l.at c.args.count l.kept c.args.plan.now c.unwrap_err.result c.loop-i-test.true
    (sym c.row_at-read.ensures.answer ∙ e) in
    search (rules, f, l.invariant.answer)

pub loop-i-preserved : goal.loop-i-preserved
loop-i-preserved c =
    let l = c.loop-i in
    let e : c.row_at-read.result ≡ Ok c.in-Ok.row = search rules in
    elim c.if-from-chute.branch [
      | then-from-chute w ↦
          record {
            answer = rw w.kept-is (sym (keeping_new c.args.chute l.i l.at c.args.count l.kept c.args.plan.now c.in-Ok.row c.loop-i-test.true
                (sym c.row_at-read.ensures.answer ∙ e) (search (rules, w.if-from-chute.true))) ∙ l.invariant.answer);
          }
      | else-from-chute w ↦
          record {
            answer = rw w.kept-is (sym (keeping_old c.args.chute l.i l.at c.args.count l.kept c.args.plan.now c.in-Ok.row c.loop-i-test.true
                (sym c.row_at-read.ensures.answer ∙ e) (λ q. w.if-from-chute.false (search (rules, q)))) ∙ l.invariant.answer);
          }
    ]

pub returns-then-at-plan : goal.returns-then-at-plan
returns-then-at-plan c =
    let l = c.loop-i in
    sym (keeping_over c.args.chute l.i l.at c.args.count l.kept c.args.plan.now c.loop-i-test.false c.if-at-plan.true) ∙ l.invariant.answer

pub returns : goal.returns
returns c =
    let l = c.loop-i in
    let n : c.args.count ≡ l.i = omega arith in
    let r : c.ok.result ≡ row_there l.kept c.args.plan.now = search (rules, ap row_read c.row_at.ensures.answer) in
    let f = keeping_done c.args.chute l.i l.at c.args.count l.kept c.args.plan.now c.loop-i-test.false c.if-at-plan.false in
    ap (λ (k : ℕ). Ok (record { count = k; row = c.ok.result })) n ∙ rw r (sym f ∙ l.invariant.answer)
