-- Each fact holds by computation, once the definitions are opened.
use mathlib.Core.Path.{refl}
use Rattle.pieces.specs.Pieces.{piece_count, cut, key_after, stream_of, drawn, total_runs}
use Rattle.pieces.specs.Facts.{PieceFactsHold}

pub piece_facts : PieceFactsHold
unfolding piece_count cut key_after stream_of drawn total_runs
piece_facts generate key =
    record {
      count0 = refl;
      count1 = refl;
      count208 = refl;
      count209 = refl;
      cut207 = refl;
      cut209 = refl;
      none = refl;
      twenty = refl;
      two = refl;
      runs = λ runs_from. refl;
    }
