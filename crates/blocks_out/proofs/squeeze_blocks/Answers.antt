-- A turn squeezes one block (`Blocks.lanes_after`, `Blocks.out_after`).
use borrow.Rule.Slice.PartMut.{put_mid}
use Rattle.std.proofs.Common.{arith, ap, sym, ◌∙◌, ◌≡◌, ℕ, List, ◌+◌, ◌-◌, ◌*◌, ◌≤◌, ◌<◌, length}
use Rattle.std.proofs.lemmas.List.Edits.{sets}
use Rattle.fips202.specs.Fips202.{keccak_p}
use Rattle.fips202.specs.Bytes.{bytes_at}
use Rattle.encode.specs.Padding.{rate, whole_blocks}
use Rattle.in_place.specs.Rounds.{state_of}
use Rattle.in_place.specs.Laws.Turns.{state_of-columns}
use Rattle.blocks_out.specs.Blocks.{squeeze, permuted}
use Rattle.blocks_out.proofs.Blocks.{part_filled, lanes_after, out_after, lanes_stay, out_stays, no_block}
use Rattle.blocks_out.proofs.squeeze_blocks.Goals as goal

pub returns-then-blocks-eq0 : goal.returns-then-blocks-eq0
returns-then-blocks-eq0 c = no_block c.args.out.now c.args.from c.args.lanes.now (omega arith)

pub loop-i-init : goal.loop-i-init
loop-i-init c =
    let a = c.args in
    let s = a.out.now in
    let columns = c.of-c.result in
    let x : List ℕ = state_of columns.evens columns.odds in
    let e : a.from + rate * 0 ≡ a.from = omega arith in
    let f : x ≡ a.lanes.now
    = state_of-columns a.lanes.now columns.evens columns.odds c.of-c.ensures.evens c.of-c.ensures.odds c.all_lanes.ensures in (
      ap (λ (k : ℕ). permuted (whole_blocks s k) x) e ∙ ap (permuted (whole_blocks s a.from)) f,
      ap (λ (k : ℕ). sets s k (squeeze (whole_blocks s k) (keccak_p x))) e
          ∙ ap (λ (y : List ℕ). sets s a.from (squeeze (whole_blocks s a.from) (keccak_p y))) f,
    )

pub loop-i-preserved : goal.loop-i-preserved
loop-i-preserved c =
    let a = c.args in
    let s = a.out.now in
    let l = c.loop-i.out in
    let at : ℕ = a.from + rate * c.loop-i.i in
    let x : List ℕ = state_of c.loop-i.c.evens c.loop-i.c.odds in
    let b : List ℕ = state_of c.rounds.new.c.evens c.rounds.new.c.odds in
    let k = c.constants-k.result in
    let e : a.from + rate * (c.loop-i.i + 1) ≡ at + rate = omega arith in
    let h : at + rate ≤ length s = omega arith in
    let w = part_filled at (at + rate - at) c.put_out.result l c.joined.result _ (omega arith) (omega arith) c.put_out.ensures.0 c.put_out.ensures.1 in (
      ap (λ (i : ℕ). permuted (whole_blocks s i) b) e ∙ lanes_after s at k x b c.constants-k.ensures h c.rounds.ensures ∙ c.loop-i.invariant.0,
      ap (λ (i : ℕ). sets (put_mid at (at + rate - at) l c.put_out.new.out) i (squeeze (whole_blocks s i) (keccak_p b))) e
          ∙ ap (λ (y : List ℕ). sets y (at + rate) (squeeze (whole_blocks s (at + rate)) (keccak_p b)))
          (w ∙ ap (λ (y : List ℕ). sets l at (bytes_at y 0 rate)) c.joined.ensures)
          ∙ out_after s at k x b c.constants-k.ensures h c.rounds.ensures l
          ∙ c.loop-i.invariant.1,
    )

pub returns : goal.returns
returns c =
    let a = c.args in
    let s = a.out.now in
    let at : ℕ = a.from + rate * c.loop-i.i in
    let x : List ℕ = state_of c.loop-i.c.evens c.loop-i.c.odds in
    let h : length s < at + rate = omega arith in (
      omega arith,
      c.joined-2.ensures ∙ sym (lanes_stay s at x h) ∙ c.loop-i.invariant.0,
      sym (out_stays s at c.loop-i.out (keccak_p x) h) ∙ c.loop-i.invariant.1,
    )
