-- Three rows and two lanes put in are the block (`Placed.block_in`).
use Rattle.std.proofs.Common.{rules, arith, ap, ap₂, ◌∙◌, ℕ, List}
use Rattle.blocks_in.specs.Columns.{xored_at, evens_with, odds_with}
use Rattle.blocks_in.proofs.Placed.{block_in}
use Rattle.blocks_in.proofs.xor_block.Goals as goal

pub returns : goal.returns
returns c =
    let a = c.args in
    let s = a.s.now in
    let e0 = c.xor_row.ensures in
    let e1 = c.xor_row-2.ensures in
    let e2 = c.xor_row-3.ensures in
    block_in s a.at a.c.now.evens a.c.now.odds _ _ c.known.ensures (λ j. search rules) (omega arith)
    (ap₂ (λ (l : List ℕ) (w : ℕ). xored_at l 9 w)
    (e2.0 ∙ ap (evens_with 2 s a.at) (e1.0 ∙ ap (evens_with 1 s a.at) e0.0)) c.word_at.ensures)
    (ap₂ (λ (l : List ℕ) (w : ℕ). xored_at l 6 w)
    (e2.1 ∙ ap (odds_with 2 s a.at) (e1.1 ∙ ap (odds_with 1 s a.at) e0.1)) c.word_at-2.ensures)
