-- Laws on a request cut into pieces, over any generator: the turn of the loop that makes the pieces, and draws in a row.
use Rattle.std.specs.Prelude.{◌≡◌, take}
use Rattle.std.proofs.Math.Path.{refl, sym, ap}
use Rattle.std.proofs.Common.{◌∙◌, suc-add, lt-ltb, le-ltb, take_all, take_at, length-take-le}
use mathlib.Core.List.{List, [], ◌++◌, append_assoc, append-nil}
use Prim.Native.Nat.{ℕ, zero, suc, ◌+◌, ◌-◌, ◌*◌, ◌≤◌, ◌<◌, min}
use Rattle.std.proofs.Math.Nat.{zero-add}
use Rattle.std.proofs.Math.Decide.{dec_le}
use native.Mathlib.Omega.{arith}
use Rattle.std.proofs.Math.ListN.{length, length-append}
use Rattle.std.proofs.lemmas.List.{take-append-le}
use Rattle.std.proofs.Math.Seq.{take-append-add}
use Rattle.pieces.specs.Pieces.{Generated, piece_bytes, piece_count, cut, key_after, stream_of, drawn, total_runs}

-- stream given before what a request hands back
abbrev pub before : List ℕ → Generated → Generated
before s d = record { key = d.key; stream = s ++ d.stream }

pub cut_small : (n : ℕ) → n < piece_bytes → cut n ≡ n
unfolding cut
cut_small n h = rw (lt-ltb n piece_bytes h)

pub cut_large : (n : ℕ) → piece_bytes ≤ n → cut n ≡ piece_bytes
unfolding cut
cut_large n h = rw (le-ltb n piece_bytes h)

pub cut_fits : (n : ℕ) → (cut n ≤ n) × (cut n ≤ piece_bytes)
cut_fits n = elim (dec_le piece_bytes n) [
  | yes h ↦ let e = cut_large n h in (omega arith, omega arith)
  | no h ↦ let e = cut_small n (omega arith) in (omega arith, omega arith)
]

pub cut_some : (n : ℕ) → 0 < n → 0 < cut n
cut_some n h = elim (dec_le piece_bytes n) [
  | yes k ↦ let e = cut_large n k in omega arith
  | no k ↦ let e = cut_small n (omega arith) in omega arith
]

pub piece_count-none : piece_count 0 ≡ 0
unfolding piece_count
piece_count-none = refl

pub piece_count-fewer : (n : ℕ) → piece_count n ≤ n
unfolding piece_count
piece_count-fewer n = omega arith

-- the pieces of a + b bytes, where a bytes are m pieces
pub piece_count-add : (m b : ℕ) → piece_count (m * piece_bytes + b) ≡ m + piece_count b
unfolding piece_count
piece_count-add m b = omega arith

pub piece_count-more : (n : ℕ) → 0 < n → piece_count n ≡ suc (piece_count (n - cut n))
unfolding piece_count
piece_count-more n h = elim (dec_le piece_bytes n) [
  | yes k ↦ let e = cut_large n k in omega arith
  | no k ↦ let e = cut_small n (omega arith) in omega arith
]

pub piece_count-whole : (m : ℕ) → piece_count (m * piece_bytes) ≡ m
unfolding piece_count
piece_count-whole m = omega arith

-- ---- places: the piece m begins after m whole ones

pub place_within : (n m : ℕ) → m < piece_count n → m * piece_bytes < n
unfolding piece_count
place_within n m h = omega arith

-- the place after a piece, which is cut where the request ends
pub place_after : (n m : ℕ) → m * piece_bytes < n
    → (min ((m + 1) * piece_bytes) n ≡ m * piece_bytes + cut (n - m * piece_bytes))
    × (n - (m + 1) * piece_bytes ≡ n - (m * piece_bytes + cut (n - m * piece_bytes)))
place_after n m h = elim (dec_le piece_bytes (n - m * piece_bytes)) [
  | yes k ↦ let e = cut_large (n - m * piece_bytes) k in (omega arith, omega arith)
  | no k ↦ let e = cut_small (n - m * piece_bytes) (omega arith) in (omega arith, omega arith)
]

-- after all pieces nothing is left
pub place_end : (n m : ℕ) → piece_count n ≤ m → n ≤ m * piece_bytes
unfolding piece_count
place_end n m h = omega arith

-- the first n bytes of a piece with others after it: what is cut from the piece, then the rest
take_cut : (n : ℕ) (xs ys : List ℕ) → length xs ≡ piece_bytes → take n (xs ++ ys) ≡ take (cut n) xs ++ take (n - cut n) ys
take_cut n xs ys e = elim (dec_le piece_bytes n) [
  | yes h ↦
      let c : cut n ≡ piece_bytes = cut_large n h in
      let a : n ≡ length xs + (n - piece_bytes) = omega arith in
      rw (c, take_all piece_bytes xs (omega arith)) (ap (λ (k : ℕ). take k (xs ++ ys)) a ∙ take-append-add xs ys (n - piece_bytes))
  | no h ↦
      let c : cut n ≡ n = cut_small n (omega arith) in
      let z : n - n ≡ 0 = omega arith in
      rw (c, z, append-nil) (take-append-le n xs ys (omega arith))
]

-- a bytes that are whole, then b
take_whole : (a b : ℕ) (xs ys : List ℕ) → length xs ≡ a → take (a + b) (xs ++ ys) ≡ take a xs ++ take b ys
take_whole a b xs ys e = rw (take_all a xs (omega arith), ← e) (take-append-add xs ys b)

module _ (generate : List ℕ → Generated) where
  pub drawn_none : (key : List ℕ) → drawn generate 0 key ≡ record { key = key; stream = [] }
  unfolding drawn key_after stream_of
  drawn_none key = rw piece_count-none

  key_after-add : (m n : ℕ) (key : List ℕ) → key_after generate (m + n) key ≡ key_after generate n (key_after generate m key)
  unfolding key_after
  key_after-add zero n key = rw zero-add
  key_after-add (suc m) n key = ap (λ (k : ℕ). key_after generate k key) (suc-add m n) ∙ key_after-add m n (generate key).key

  stream_of-add : (m n : ℕ) (key : List ℕ) → stream_of generate (m + n) key ≡ stream_of generate m key ++ stream_of generate n (key_after generate m key)
  unfolding key_after stream_of
  stream_of-add zero n key = rw zero-add
  stream_of-add (suc m) n key =
      ap (λ (k : ℕ). stream_of generate k key) (suc-add m n)
      ∙ ap (λ (l : List ℕ). (generate key).stream ++ l) (stream_of-add m n (generate key).key)
      ∙ sym (append_assoc (generate key).stream (stream_of generate m (generate key).key) (stream_of generate n (key_after generate m (generate key).key)))

  -- where every piece from a key of one length takes k permutations, and leaves a key of that length
  pub total_runs-equal : (runs_from : List ℕ → ℕ) (size k : ℕ) → ((key : List ℕ) → length key ≡ size → runs_from key ≡ k)
      → ((key : List ℕ) → length (generate key).key ≡ size) → (m : ℕ) (key : List ℕ) → length key ≡ size → total_runs generate runs_from m key ≡ k * m
  unfolding total_runs
  total_runs-equal runs_from size k each next zero key h = omega arith
  total_runs-equal runs_from size k each next (suc m) key h =
      (λ i. each key h i + total_runs-equal runs_from size k each next m (generate key).key (next key) i) ∙ omega arith

-- of a generator whose pieces are as long as the definition asks
module _ (generate : List ℕ → Generated) (sized : (key : List ℕ) → length (generate key).stream ≡ piece_bytes) where
  length_stream_of : (m : ℕ) (key : List ℕ) → length (stream_of generate m key) ≡ m * piece_bytes
  unfolding stream_of
  length_stream_of zero key = refl
  length_stream_of (suc m) key =
      length-append (generate key).stream (stream_of generate m (generate key).key) ∙ omega (arith, sized key, length_stream_of m (generate key).key)

  -- the next piece, then the rest of the request
  pub drawn_piece : (n : ℕ) (key : List ℕ) → 0 < n → drawn generate n key
      ≡ before (take (cut n) (generate key).stream) (drawn generate (n - cut n) (generate key).key)
  unfolding drawn key_after stream_of
  drawn_piece n key h =
      rw (piece_count-more n h)
      (λ i. record {
        key = key_after generate (piece_count (n - cut n)) (generate key).key;
        stream = take_cut n (generate key).stream (stream_of generate (piece_count (n - cut n)) (generate key).key) (sized key) i;
      })

  -- a turn of the loop that fills `out`: i bytes are done, and the piece's c bytes are put in after them
  pub drawn_turn : (out part rest key next : List ℕ) (i n c : ℕ) → i < n → i ≤ length out → c ≡ cut (n - i)
      → part ≡ take c (generate key).stream → next ≡ (generate key).key
      → before (take (i + c) (take i out ++ (part ++ rest))) (drawn generate (n - (i + c)) next) ≡ before (take i out) (drawn generate (n - i) key)
  drawn_turn out part rest key next i n c more fits is given moved =
      let d : Generated = drawn generate (n - i - cut (n - i)) (generate key).key in
      let p : List ℕ = take (cut (n - i)) (generate key).stream in
      let size : length part ≡ c = ap length given ∙ length-take-le c (generate key).stream (omega (arith, sized key, (cut_fits (n - i)).1)) in
      let done : take (i + c) (take i out ++ (part ++ rest)) ≡ take i out ++ part
      = ap (take (i + c)) (sym (append_assoc (take i out) part rest))
      ∙ take_at (take i out ++ part) rest (i + c) (length-append (take i out) part ∙ omega (arith, length-take-le i out fits)) in
      let left : n - (i + c) ≡ n - i - cut (n - i) = omega arith in
      rw (done, left, given, moved, is)
      ((λ j. record { key = d.key; stream = append_assoc (take i out) p d.stream j })
      ∙ ap (before (take i out)) (sym (drawn_piece (n - i) key (omega arith))))

  -- its end
  pub drawn_end : (out key old : List ℕ) (n : ℕ) → length out ≡ n → before (take n out) (drawn generate 0 key) ≡ drawn generate n old
      → (key ≡ (drawn generate n old).key) × (out ≡ (drawn generate n old).stream)
  drawn_end out key old n full e =
      let f : before (take n out) (record { key = key; stream = [] }) ≡ drawn generate n old = ap (before (take n out)) (sym (drawn_none generate key)) ∙ e in (
        ap (λ (d : Generated). d.key) f,
        sym (append-nil out) ∙ ap (λ (l : List ℕ). l ++ []) (sym (take_all n out (omega arith))) ∙ ap (λ (d : Generated). d.stream) f,
      )

  -- Draws in a row : a draw of a bytes and then one of b is a draw of a + b, where a is a multiple of 208
  pub drawn_add : (m b : ℕ) (key : List ℕ) → drawn generate (m * piece_bytes + b) key
      ≡ before (drawn generate (m * piece_bytes) key).stream (drawn generate b (drawn generate (m * piece_bytes) key).key)
  unfolding drawn
  drawn_add m b key =
      let k : List ℕ = key_after generate m key in
      let s : List ℕ = stream_of generate m key in
      let t : List ℕ = stream_of generate (piece_count b) k in
      let n : length s ≡ m * piece_bytes = length_stream_of m key in
      let whole : piece_count (m * piece_bytes) ≡ m = piece_count-whole m in
      rw (piece_count-add m b, whole, key_after-add generate m (piece_count b) key, stream_of-add generate m (piece_count b) key)
      (λ i. record { key = key_after generate (piece_count b) k; stream = take_whole (m * piece_bytes) b s t n i })
