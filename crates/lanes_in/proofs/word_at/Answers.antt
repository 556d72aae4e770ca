-- The bytes are there, and are the eight at `at` (`Lanes.word_is`).
use Rattle.std.proofs.Common.{◌≡◌, ◌∙◌, ◌+◌, ◌-◌, ◌≤◌, ℕ, ap, sym, take, drop, length, arith}
use Rattle.std.proofs.lemmas.List.{take_all, length-take}
use Rattle.lanes_in.specs.Laws.Lanes.{word_is}
use Rattle.lanes_in.proofs.Lanes.{le_at}
use Rattle.lanes_in.proofs.word_at.Goals as goal

pub returns : goal.returns
returns c =
    let s = c.args.s.now in
    let at = c.args.at in
    let k = c.in-Some.ensures.cases in
    let room : at + 8 ≤ length s = omega arith in
    let e : at + 8 - at ≡ 8 = omega arith in
    let few : length (take 8 (drop at s)) ≤ 8 = simp length-take (omega arith) in
    c.from_le_bytes.ensures
    ∙ le_at s c.in-Some.bytes.now at room (k.same ∙ ap (λ (n : ℕ). take 8 (take n (drop at s))) e ∙ take_all 8 (take 8 (drop at s)) few)
    ∙ sym (word_is s at room)
