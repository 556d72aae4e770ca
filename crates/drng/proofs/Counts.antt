-- A piece's count follows from the lengths of its call's arguments; the key that follows is as long as the one before, so each piece counts alike.
use mathlib.Core.Path.{◌≡◌, ap, ◌∙◌}
use Rattle.std.specs.Prelude.{Ok}
use mathlib.Core.List.{List}
use Prim.Native.Nat.{ℕ, ◌+◌, ◌*◌, ◌/◌, ◌≤◌}
use native.Mathlib.Omega.{arith}
use lib.ListN.{length, length-append}
use lib.Seq.{length-take-le}
use Rattle.encode.specs.Digits.{width_in}
use Rattle.encode.specs.Padding.{rate}
use Rattle.encode.specs.Encode.{length_suffixed}
use Rattle.calls.specs.Limits.{max_additional, max_output}
use Rattle.calls.specs.Call.{fed}
use Rattle.calls.specs.Count.{runs}
use Rattle.calls.proofs.Laws.Runs.{runs_by_lengths}
use Rattle.sponge.specs.Sponge.{sponge}
use Rattle.sponge.proofs.Whole.{length_sponge}
use Rattle.seeding.specs.declared.Drng.{Drng}
use Rattle.seeding.specs.declared.Drng.TheVariants.{Cshake, Kmac}
use Rattle.seeding.specs.Seeding.{key_bytes}
use Rattle.pieces.specs.Pieces.{piece_bytes, piece_count}
use Rattle.pieces.proofs.Laws.{piece_count-fewer, total_runs-equal}
use Rattle.drng.specs.Calls.{piece_call, generate}
use Rattle.drng.specs.Drng.{draw_runs, draw_answer}
use Rattle.drng.specs.Counts.{piece_runs, DrawCounts}
use Rattle.drng.proofs.Answers.{draw_limits}

-- the additional input, its length and what ends the call's input leave a block unfilled
message_blocks : (additional : List ℕ) (e : ℕ) → length additional ≤ max_additional → e ≤ 2 → (length (length_suffixed additional) + e) / rate ≡ 0
message_blocks additional e fits few =
    let x : length (length_suffixed additional) ≡ length additional + 1 = simp length-append in
    omega arith

piece_runs_lem : (d : Drng) (additional key : List ℕ) → length additional ≤ max_additional → length key ≡ key_bytes
    → runs (piece_call d additional key) ≡ piece_runs d
unfolding width_in
piece_runs_lem Cshake additional key fits size =
    runs_by_lengths (piece_call Cshake additional key) ∙ rw (size, message_blocks additional 0 fits (omega arith))
piece_runs_lem Kmac additional key fits size =
    runs_by_lengths (piece_call Kmac additional key) ∙ rw (size, message_blocks additional 2 fits (omega arith))

-- the key that follows a piece is as long as the definition asks
key_sized : (d : Drng) (additional key : List ℕ) → length (generate d additional key).key ≡ key_bytes
unfolding generate
key_sized d additional key =
    let output : List ℕ = sponge (fed (piece_call d additional key)) (key_bytes + piece_bytes) in
    length-take-le key_bytes output (omega (arith, length_sponge (fed (piece_call d additional key)) (key_bytes + piece_bytes)))

pub draw_runs_lem : (d : Drng) (additional key : List ℕ) (n : ℕ) → length additional ≤ max_additional → length key ≡ key_bytes
    → draw_runs d additional n key ≡ piece_runs d * piece_count n
unfolding draw_runs
draw_runs_lem d additional key n fits size =
    total_runs-equal (generate d additional) (λ k. runs (piece_call d additional k)) key_bytes (piece_runs d) (λ k h. piece_runs_lem d additional k fits h)
    (key_sized d additional) (piece_count n) key size

-- of an output that is accepted it is a number of 64 bits
pub runs_small : (d : Drng) (n : ℕ) → n ≤ max_output → piece_runs d * piece_count n ≤ 4 * max_output
runs_small Cshake n h = omega (arith, piece_count-fewer n)
runs_small Kmac n h = omega (arith, piece_count-fewer n)

pub draw_counts : DrawCounts
unfolding draw_answer
draw_counts =
    record {
      piece = piece_runs_lem;
      draw = λ d g additional n size ok. rw ok (ap Ok (draw_runs_lem d additional g.key n (draw_limits g.seeded (length additional) n ok).0 size));
    }
