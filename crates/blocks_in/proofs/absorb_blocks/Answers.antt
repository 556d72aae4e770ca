-- A turn absorbs one block (`Blocks.one_block`).
use Rattle.std.proofs.Common.{arith, ap, sym, ◌∙◌, ◌≡◌, ℕ, List, ◌+◌, ◌*◌, ◌<◌, length}
use Rattle.std.specs.Prelude.{drop}
use Rattle.encode.specs.Padding.{rate, whole_blocks}
use Rattle.in_place.specs.Rounds.{state_of}
use Rattle.in_place.specs.Laws.Turns.{permutation, state_of-columns}
use Rattle.blocks_in.specs.Blocks.{absorb}
use Rattle.blocks_in.proofs.Blocks.{one_block, no_block, nothing_left}
use Rattle.blocks_in.proofs.absorb_blocks.Goals as goal

pub returns-then-blocks-eq0 : goal.returns-then-blocks-eq0
returns-then-blocks-eq0 c = no_block c.args.s.now c.args.from c.args.lanes.now (omega arith)

pub loop-i-init : goal.loop-i-init
loop-i-init c =
    let a = c.args in
    let s = a.s.now in
    let columns = c.of-c.result in
    let e : a.from + rate * 0 ≡ a.from = omega arith in
    ap (λ (k : ℕ). absorb (whole_blocks s k) (state_of columns.evens columns.odds) (drop k s)) e
    ∙ ap (λ (l : List ℕ). absorb (whole_blocks s a.from) l (drop a.from s))
    (state_of-columns a.lanes.now columns.evens columns.odds c.of-c.ensures.evens c.of-c.ensures.odds c.all_lanes.ensures)

pub loop-i-preserved : goal.loop-i-preserved
loop-i-preserved c =
    let a = c.args in
    let s = a.s.now in
    let at : ℕ = a.from + rate * c.loop-i.i in
    let old = c.loop-i.c in
    let new = c.absorb_block.new.c in
    let e : a.from + rate * (c.loop-i.i + 1) ≡ at + rate = omega arith in
    ap (λ (k : ℕ). absorb (whole_blocks s k) (state_of new.evens new.odds) (drop k s)) e
    ∙ one_block s at (state_of old.evens old.odds) (state_of new.evens new.odds) (omega arith)
    (c.absorb_block.ensures ∙ permutation c.constants-k.result _ c.constants-k.ensures)
    ∙ c.loop-i.invariant

pub returns : goal.returns
returns c =
    let a = c.args in
    let s = a.s.now in
    let at : ℕ = a.from + rate * c.loop-i.i in
    let h : length s < at + rate = omega arith in
    (omega arith, c.joined.ensures ∙ sym (nothing_left s at (state_of c.loop-i.c.evens c.loop-i.c.odds) h) ∙ c.loop-i.invariant)
