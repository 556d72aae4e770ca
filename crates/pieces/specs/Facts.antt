-- The edges of a piece: what docs/RULES.md, 'Facts', counts draws by, and the key that a draw of 0 bytes leaves. proofs/Facts.antt proves them by
-- computation.
use Rattle.std.specs.Prelude.{◌≡◌, List, [], ◌++◌, ℕ, ◌+◌, take}
use Rattle.pieces.specs.Pieces.{Generated, piece_count, cut, drawn, total_runs}

pub record PieceFacts (generate : List ℕ → Generated) (key : List ℕ) : Type 0 where
  pub count0 : piece_count 0 ≡ 0
  pub count1 : piece_count 1 ≡ 1
  pub count208 : piece_count 208 ≡ 1
  pub count209 : piece_count 209 ≡ 2
  pub cut207 : cut 207 ≡ 207
  pub cut209 : cut 209 ≡ 208
  -- no byte: no piece
  pub none : drawn generate 0 key ≡ record { key = key; stream = [] }
  -- 20 bytes: the beginning of one piece
  pub twenty : drawn generate 20 key ≡ record { key = (generate key).key; stream = take 20 ((generate key).stream ++ []) }
  -- 209 bytes: a piece, and the beginning of the next, from the key that the first left
  pub two : drawn generate 209 key
      ≡ record { key = (generate (generate key).key).key; stream = take 209 ((generate key).stream ++ ((generate (generate key).key).stream ++ [])) }
  -- the runs of two pieces: those of the piece from the key, and of the piece from the key that it left
  pub runs : (runs_from : List ℕ → ℕ) → total_runs generate runs_from 2 key ≡ runs_from key + (runs_from (generate key).key + 0)

abbrev pub PieceFactsHold : Type 0
PieceFactsHold = (generate : List ℕ → Generated) (key : List ℕ) → PieceFacts generate key
