-- A turn puts in the next piece (`Laws.drawn_turn`), and the last turn ends the request (`Laws.drawn_end`).
use Rattle.std.proofs.Common.{◌≡◌, ℕ, ◌+◌, ◌*◌, ◌-◌, ◌≤◌, ◌<◌, length, min, take, drop, ap, ◌∙◌, arith}
use borrow.Rule.Slice.PartMut.{post_of, same_len_mid, mid_len}
use Rattle.pieces.specs.Pieces.{piece_bytes}
use Rattle.pieces.proofs.Laws.{cut_fits, place_within, place_after, place_end, drawn_turn, drawn_end}
use Rattle.drng.specs.Calls.{generate}
use Rattle.generator.proofs.Calls.{piece_key, piece_stream, piece_sized}
use Rattle.generator.proofs.draw_pieces.Goals as goal

pub overflow_mul-start : goal.overflow_mul-start
overflow_mul-start c = omega (arith, place_within (length c.args.out.now) c.loop-made.made (omega arith))

pub overflow_sub-n : goal.overflow_sub-n
overflow_sub-n c = omega (arith, place_within (length c.args.out.now) c.loop-made.made (omega arith))

pub overflow_add-end : goal.overflow_add-end
overflow_add-end c =
    omega (arith, place_within (length c.args.out.now) c.loop-made.made (omega arith), (cut_fits (length c.args.out.now - c.loop-made.made * 208)).0)

pub slice_bounds-piece-end : goal.slice_bounds-piece-end
slice_bounds-piece-end c =
    omega (arith, place_within (length c.args.out.now) c.loop-made.made (omega arith), (cut_fits (length c.args.out.now - c.loop-made.made * 208)).0)

pub loop-made-preserved : goal.loop-made-preserved
loop-made-preserved c =
    let drng = c.args.drng in
    let additional = c.args.additional.now in
    let k = c.loop-made in
    let i = k.made * piece_bytes in
    let size = c.cut.result in
    let piece = c.piece-next in
    let part = piece.new.out in
    let n = length c.args.out.now in
    let begun : i < n = place_within n k.made (omega arith) in
    let fits = cut_fits (n - i) in
    let end : i + size ≤ n = omega (arith, c.cut.ensures, fits.0) in
    let lent : length (take (i + size - i) (drop i k.out)) ≡ size = mid_len i (i + size) k.out (omega arith) ∙ omega arith in
    let room : length (take (i + size - i) (drop i k.out)) ≤ piece_bytes = omega (arith, lent, c.cut.ensures, fits.1) in
    let given : part ≡ take size (generate drng additional k.key).stream
    = piece_stream _ _ _ _ c.requires _ _ piece.ensures room ∙ ap (λ (m : ℕ). take m (generate drng additional k.key).stream) lent in
    let place = place_after n k.made begun in
    let next : min ((k.made + 1) * piece_bytes) n ≡ i + size = omega (arith, place.0, c.cut.ensures) in
    let left : n - (k.made + 1) * piece_bytes ≡ n - (i + size) = omega (arith, place.1, c.cut.ensures) in
    let here : min (k.made * piece_bytes) n ≡ i = omega arith in
    record {
      sized = same_len_mid i (i + size - i) k.out part piece.auto.out ∙ k.invariant.sized;
      joined =
          rw (next, left)
          (drawn_turn (generate drng additional) (piece_sized drng additional) k.out part (post_of i (i + size - i) k.out) k.key piece.result i n
          size begun (omega arith) c.cut.ensures given (piece_key _ _ _ _ c.requires _ _ piece.ensures room)
          ∙ (rw here at k.invariant.joined));
    }

pub returns : goal.returns
returns c =
    let a = c.args in
    let k = c.loop-made in
    let n = length a.out.now in
    let all : n ≤ k.made * piece_bytes = place_end n k.made (omega arith) in
    let end : min (k.made * piece_bytes) n ≡ n = omega arith in
    let none : n - k.made * piece_bytes ≡ 0 = omega arith in
    drawn_end (generate a.drng a.additional.now) (piece_sized a.drng a.additional.now) k.out k.key a.old n k.invariant.sized
    (rw (end, none) at k.invariant.joined)
