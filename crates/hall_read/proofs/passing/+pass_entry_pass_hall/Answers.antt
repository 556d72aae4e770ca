-- The turns of the pass over a hall, and its end, by the laws of entries read one after another.
-- An entry that is a hall is passed over with a level fewer left.
use Rattle.std.proofs.Common.{◌≡◌, sym, ap, ◌∙◌, ◌-◌, ℕ, drop, arith}
use Rattle.std.proofs.lemmas.Result.{err_from_is_err_and}
use Rattle.hall_entry.specs.Entries.{chute_kind, entries_of}
use Rattle.hall_entry.specs.Answers.{kind_number}
use Rattle.hall_entry.specs.Laws.Heads.{head_known}
use Rattle.hall_read.specs.Passing.{passed_over}
use Rattle.hall_read.specs.declared.Progress.{Progress}
use Rattle.hall_read.specs.Laws.Reading.{turn_bad, turn_counted, turn, turn_end, entry_hall}
use Rattle.hall_read.proofs.passing.+pass_entry_pass_hall.Goals as goal

-- an entry is known at every place
abbrev Everywhere : ℕ → Type 0
Everywhere at = Unit

pub pass_entry-returns-in-Hall : goal.pass_entry-returns-in-Hall
pass_entry-returns-in-Hall g t c =
    let a = c.args in
    let p = a.from in
    let n = c.in_ok-kind in
    let s = g.E.Entries.items a.entries in
    let head = g.E.Entries.head in
    let heads = g.met.E.Entries.heads a.entries in
    let h = head_known s a.levels p.chutes p.at n.field-0 (head a.levels p.chutes p.at (drop p.at s)) (heads a.levels p.chutes p.at) (sym n.ensures) in
    let one : kind_number n.field-0.kind ≡ 1 = ap kind_number c.in-Hall.is in
    let hall : kind_number n.field-0.kind ≡ chute_kind → ⊥ = λ z. omega (arith, one, z) in
    c.pass_hall.ensures
    ∙ ap (λ (q : Progress). passed_over a.chute q (entries_of head (a.levels - 1) n.field-0.value q.at q.chutes (drop q.at s))) c.into_hall.ensures
    ∙ sym (entry_hall s head Everywhere (λ at i. tt) (λ levels chutes at i. heads levels chutes at) a.chute a.levels p (kind_number n.field-0.kind)
    n.field-0.value n.field-0.next h.is hall (h.kind.hall hall))

pub pass_hall-returns-in_err-progress : goal.pass_hall-returns-in_err-progress
pass_hall-returns-in_err-progress g t c =
    let a = c.args in
    let l = c.loop in
    let e = c.in_err-progress in
    let p = err_from_is_err_and c.from_residual.result c.from_residual.ensures.1 in
    rw (p.1, p.2)
    (sym (turn_bad (g.E.Entries.items a.entries) g.E.Entries.head Everywhere (λ at i. tt)
    (λ levels chutes at i. g.met.E.Entries.heads a.entries levels chutes at) a.chute a.levels a.count l.counter l.progress _ e.ensures c.loop-test.true)
    ∙ l.invariant.answer)

pub pass_hall-loop-preserved : goal.pass_hall-loop-preserved
pass_hall-loop-preserved g t c =
    let a = c.args in
    let l = c.loop in
    let q = c.in_ok-progress in
    let s = g.E.Entries.items a.entries in
    let head = g.E.Entries.head in
    let heads = g.met.E.Entries.heads a.entries in
    record {
      counted = turn_counted s head Everywhere (λ at i. tt) (λ levels chutes at i. heads levels chutes at) a.chute a.levels a.count l.counter l.progress
          q.progress tt q.ensures l.invariant.counted;
      answer = sym (turn s head Everywhere (λ at i. tt) (λ levels chutes at i. heads levels chutes at) a.chute a.levels a.count l.counter l.progress
          q.progress tt q.ensures c.loop-test.true)
          ∙ l.invariant.answer;
    }

pub pass_hall-returns : goal.pass_hall-returns
pass_hall-returns g t c =
    let a = c.args in
    let l = c.loop in
    sym (turn_end (g.E.Entries.items a.entries) g.E.Entries.head Everywhere (λ at i. tt)
    (λ levels chutes at i. g.met.E.Entries.heads a.entries levels chutes at) a.chute a.levels a.count l.counter l.progress c.loop-test.false)
    ∙ l.invariant.answer
