-- The bytes of the first lane (`Lanes.first_put`), those of the next one (`Lanes.next_lane`), and what is left (`Lanes.last_lane`).
use Rattle.std.proofs.Common.{◌≡◌, ◌∙◌, ◌+◌, ◌*◌, ◌-◌, ◌%◌, ◌/◌, ◌≤◌, List, [], ℕ, ap, refl, length, take, drop, arith}
use Rattle.fips202.specs.Bytes.{xor_bytes}
use Rattle.encode.specs.Digits.{number_of}
use Rattle.std.proofs.lemmas.List.{take_all}
use Rattle.lanes_in.proofs.Lanes.{le_at, first_put, next_lane, length_left, lane_at, last_lane}
use Rattle.lanes_in.proofs.xor_some.Goals as goal

pub returns-then-piece-p : goal.returns-then-piece-p
returns-then-piece-p c =
    let s = c.args.piece.now in
    let a = c.args.lanes.now in
    let p = c.args.p in
    let k = c.in-Some.ensures.cases in
    let e : c.from_le_bytes.result ≡ number_of 256 (take 8 (drop 0 s))
    = c.from_le_bytes.ensures ∙ le_at s c.in-Some.first.now 0 (omega (arith, k.enough)) k.same in
    let all : take (8 - p % 8) s ≡ s = take_all (8 - p % 8) s (omega (arith, c.if-piece-p.true)) in
    rw e (first_put s a p 0 (omega (arith, k.enough)) (λ j. (c.type_inv.piece j).fits) ∙ ap (xor_bytes a p) all)

pub loop-i-init : goal.loop-i-init
loop-i-init c =
    let s = c.args.piece.now in
    let p = c.args.p in
    let k = c.in-Some.ensures.cases in
    let z : 8 - p % 8 + 8 * 0 ≡ 8 - p % 8 = omega arith in
    let e : c.from_le_bytes.result ≡ number_of 256 (take 8 (drop 0 s))
    = c.from_le_bytes.ensures ∙ le_at s c.in-Some.first.now 0 (omega (arith, k.enough)) k.same in
    rw (e, z) (first_put s c.args.lanes.now p 0 (omega (arith, k.enough)) (λ j. (c.type_inv.piece j).fits))

pub loop-i-preserved : goal.loop-i-preserved
loop-i-preserved c =
    let s = c.args.piece.now in
    let p = c.args.p in
    let i = c.loop-i.i in
    let from : ℕ = 8 - p % 8 in
    let ws : List (List ℕ) = c.as_chunks.result.0.now in
    let eight : 8 ≤ length s = omega (arith, c.in-Some.ensures.cases.enough) in
    let lanes : length ws ≡ length (take (length s - from) (drop from s)) / 8 = c.as_chunks.ensures.front_len in
    let word : c.from_le_bytes-in-loop-i.result ≡ number_of 256 (take 8 (drop (from + 8 * i) s))
    = c.from_le_bytes-in-loop-i.ensures
    ∙ lane_at s _ [] ws from i c.as_chunks.ensures.front c.loop-i-test.true c.as_chunks.ensures.front_len (omega arith) refl in
    rw (word, c.loop-i.invariant)
    (next_lane s c.args.lanes.now p from (p / 8 + 1) i (omega arith) (omega (arith, length_left s from, lanes, eight)) (λ j. (c.type_inv.piece j).fits))

pub returns-then-rest-ne0 : goal.returns-then-rest-ne0
returns-then-rest-ne0 c =
    let s = c.args.piece.now in
    let p = c.args.p in
    let from : ℕ = 8 - p % 8 in
    let m : ℕ = length c.as_chunks.result.0.now in
    let n : ℕ = length c.as_chunks.result.1.now in
    let k = c.in-Some-last_chunk.ensures.cases in
    let all : c.loop-i.i ≡ m = omega arith in
    let lanes : m ≡ length (take (length s - from) (drop from s)) / 8 = c.as_chunks.ensures.front_len in
    let rest : n ≡ length (take (length s - from) (drop from s)) % 8 = c.as_chunks.ensures.back_len in
    rw (c.from_le_bytes-then-rest-ne0.ensures, c.loop-i.invariant, all)
    (last_lane s c.args.lanes.now c.in-Some-last_chunk.last.now p from (p / 8 + 1) m n (omega arith)
    (omega (arith, length_left s from, lanes, rest, k.0)) (omega (arith, rest))
    (omega (arith, k.0)) (λ j. (c.type_inv.piece j).fits) k.1.same)
