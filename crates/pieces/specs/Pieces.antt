-- A request cut into pieces (cSHAKE-DRNG, 1.1.5, and KMAC-DRNG, 1.2.5; docs/RULES.md, 'Generators'), for any generator: `generate` makes one piece from a key.
use Rattle.std.specs.Prelude.{cond, List, [], ◌++◌, ℕ, zero, suc, ◌+◌, ◌-◌, ◌/◌, ltb, take}

-- B: the bytes of a piece, 2 * 1,088 - 512 bits
abbrev pub piece_bytes : ℕ
piece_bytes = 208

-- what a piece, or a whole request, hands back: the new key and the stream
pub record Generated : Type 0 where
  pub key : List ℕ
  pub stream : List ℕ

-- N: the pieces that n bytes take
unfoldable pub piece_count : ℕ → ℕ
piece_count n = (n + piece_bytes - 1) / piece_bytes

-- the bytes of the next piece, where n are left to give: the last piece is cut
unfoldable pub cut : ℕ → ℕ
cut n = cond (ltb n piece_bytes) n piece_bytes

module _ (generate : List ℕ → Generated) where
  -- TMP_K(m): the key after m pieces
  unfoldable pub key_after : ℕ → List ℕ → List ℕ
  key_after zero key = key
  key_after (suc m) key = key_after m (generate key).key

  -- R(1), R(2), .. R(m): the stream of m pieces, joined
  unfoldable pub stream_of : ℕ → List ℕ → List ℕ
  stream_of zero key = []
  stream_of (suc m) key = (generate key).stream ++ stream_of m (generate key).key

  -- a request of n bytes
  unfoldable pub drawn : ℕ → List ℕ → Generated
  drawn n key = record { key = key_after (piece_count n) key; stream = take n (stream_of (piece_count n) key) }

  -- the permutations of m pieces, where `runs_from` has those of the piece that is made from a key
  unfoldable pub total_runs : (runs_from : List ℕ → ℕ) → ℕ → List ℕ → ℕ
  total_runs runs_from zero key = 0
  total_runs runs_from (suc m) key = runs_from key + total_runs runs_from m (generate key).key
