-- Lists that break the rules have no length; else the outermost number, which fits, and the entries are counted.
use Rattle.std.proofs.Common.{rules, ◌≡◌, sym, ap, ◌∙◌, ℕ, ◌+◌, length, arith}
use Rattle.leb128_write.specs.Written.{written_number}
use Rattle.leb128_write.proofs.Laws.{groups_count}
use Rattle.hall_check.specs.Lists.{pairs}
use Rattle.hall_check.specs.Laws.Taken.{lists_known}
use Rattle.hall_length.specs.Written.{written_entries}
use Rattle.hall_length.specs.Length.{length_within}
use Rattle.hall_length.specs.Laws.{lists_fit_lem}
use Rattle.hall_length.proofs.Counting.{measured, length_allowed, length_refused}
use Rattle.hall_length.proofs.hall_length.Goals as goal

pub overflow_cast-outer : goal.overflow_cast-outer
overflow_cast-outer c =
    let a = c.args in
    omega (arith, (lists_known a.outer a.kinds.now a.values.now (sym c.halls_allowed.ensures ∙ c.if-halls_allowed.true)).outer_fits)

pub unwrap-first-requires : goal.unwrap-first-requires
unwrap-first-requires c =
    let a = c.args in
    let k = lists_known a.outer a.kinds.now a.values.now (sym c.halls_allowed.ensures ∙ c.if-halls_allowed.true) in
    let e = c.number_length.ensures ∙ measured a.outer k.outer_fits in
    search (rules, e)

pub entries_length-requires : goal.entries_length-requires
entries_length-requires c =
    let a = c.args in
    let ok = sym c.halls_allowed.ensures ∙ c.if-halls_allowed.true in
    let e = c.number_length.ensures ∙ measured a.outer (lists_known a.outer a.kinds.now a.values.now ok).outer_fits in
    let first : c.unwrap-first.result ≡ length (written_number a.outer) = cc c.unwrap-first.ensures in
    (lists_fit_lem a.outer a.kinds.now a.values.now ok, omega (arith, first, groups_count 2 a.outer))

pub returns-then-halls_allowed : goal.returns-then-halls_allowed
returns-then-halls_allowed c =
    let a = c.args in
    let ok = sym c.halls_allowed.ensures ∙ c.if-halls_allowed.true in
    let e = c.number_length.ensures ∙ measured a.outer (lists_known a.outer a.kinds.now a.values.now ok).outer_fits in
    let first : c.unwrap-first.result ≡ length (written_number a.outer) = cc c.unwrap-first.ensures in
    c.entries_length.ensures ∙ ap (λ (m : ℕ). length_within (m + length (written_entries (pairs a.kinds.now a.values.now)))) first
    ∙ length_allowed a.outer a.kinds.now a.values.now ok

pub returns : goal.returns
returns c = length_refused c.args.outer c.args.kinds.now c.args.values.now (sym c.halls_allowed.ensures ∙ c.if-halls_allowed.false)
