-- What is done, with what the request still gives from the key on, is the whole request.
use Rattle.std.proofs.Common.{◌≡◌, ◌*◌, ◌-◌, length, min, take}
use Rattle.pieces.specs.Pieces.{piece_bytes, drawn}
use Rattle.pieces.proofs.Laws.{before}
use Rattle.drng.specs.Calls.{generate}
use Rattle.generator.proofs.draw_pieces.Given as goal

abbrev pub invariant-loop-made : goal.invariant-loop-made
invariant-loop-made l =
    record {
      sized : length l.out ≡ l.n;
      joined : before (take (min (l.made * piece_bytes) l.n) l.out) (drawn (generate l.drng l.additional) (l.n - l.made * piece_bytes) l.key)
          ≡ drawn (generate l.drng l.additional) l.n l.fn.old;
    }
