-- Laws of the sponge a byte at a time: output in pieces of any size, what is left of a block, whole blocks, and the beginning of the next one.
use mathlib.Core.Path.{◌≡◌, refl, sym, ap, ap₂, ◌∙◌}
use mathlib.Core.List.{List, ◌∷◌, ◌++◌}
use Prim.Native.Nat.{ℕ, zero, suc, ◌+◌, ◌-◌, ◌*◌, ◌≤◌, ◌<◌, min}
use native.Mathlib.Nat.{add-zero, zero-add, suc-add}
use native.Mathlib.Omega.{arith}
use lib.ListN.{length}
use lib.Seq.{sets}
use borrow.Author.Tests.{lt-ltb, le-ltb}
use Rattle.fips202.specs.Fips202.{keccak_p}
use Rattle.fips202.specs.Bytes.{byte_at, bytes_at}
use Rattle.encode.specs.Padding.{rate}
use Rattle.stores.specs.Laws.{sets_append, sets_all}
use Rattle.blocks_out.specs.Blocks.{squeeze, permuted}
use Rattle.sponge.specs.Running.{Running, running, refreshed, squeezed_byte, after_byte, squeezed, after}

pub squeezed_add : (n m : ℕ) (s : Running) → squeezed (n + m) s ≡ squeezed n s ++ squeezed m (after n s)
unfolding squeezed after
squeezed_add zero m s = rw zero-add
squeezed_add (suc n) m s = ap (λ (k : ℕ). squeezed k s) (suc-add n m) ∙ ap (λ (l : List ℕ). squeezed_byte s ∷ l) (squeezed_add n m (after_byte s))

pub after_add : (n m : ℕ) (s : Running) → after (n + m) s ≡ after m (after n s)
unfolding after
after_add zero m s = rw zero-add
after_add (suc n) m s = ap (λ (k : ℕ). after k s) (suc-add n m) ∙ after_add n m (after_byte s)

pub length_squeezed : (n : ℕ) (s : Running) → length (squeezed n s) ≡ n
unfolding squeezed
length_squeezed zero s = refl
length_squeezed (suc n) s = ap suc (length_squeezed n (after_byte s))

-- n bytes at 0 and m bytes after them, both squeezed into l at a place
squeezed_on : (s : Running) (l : List ℕ) (at n m : ℕ)
    → sets (sets l at (squeezed n s)) (at + n) (squeezed m (after n s)) ≡ sets l at (squeezed (n + m) s)
squeezed_on s l at n m =
    ap (λ (k : ℕ). sets (sets l at (squeezed n s)) (at + k) (squeezed m (after n s))) (sym (length_squeezed n s))
    ∙ sym (ap (sets l at) (squeezed_add n m s) ∙ sets_append l at (squeezed n s) (squeezed m (after n s)))

-- ---- bytes out of one block

refreshed_in : (a : List ℕ) (p : ℕ) → p < rate → refreshed (running a p) ≡ running a p
unfolding refreshed
refreshed_in a p h = rw (lt-ltb p rate h)

pub squeezed_in : (n : ℕ) (a : List ℕ) (p : ℕ) → n ≤ rate - p → squeezed n (running a p) ≡ bytes_at a p n
unfolding squeezed bytes_at squeezed_byte after_byte
squeezed_in zero a p h = refl
squeezed_in (suc n) a p h =
    ap (λ (t : Running). byte_at t.lanes t.position ∷ squeezed n (running t.lanes (t.position + 1))) (refreshed_in a p (omega arith))
    ∙ ap (λ (r : List ℕ). byte_at a p ∷ r) (squeezed_in n a (p + 1) (omega arith))

pub after_in : (n : ℕ) (a : List ℕ) (p : ℕ) → n ≤ rate - p → after n (running a p) ≡ running a (p + n)
unfolding after after_byte
after_in zero a p h = ap (running a) (sym (add-zero p))
after_in (suc n) a p h =
    ap (λ (t : Running). after n (running t.lanes (t.position + 1))) (refreshed_in a p (omega arith))
    ∙ after_in n a (p + 1) (omega arith)
    ∙ ap (running a) (omega arith)

-- ---- a block that is spent: bytes come from the next one

refreshed_next : (a : List ℕ) (q : ℕ) → rate ≤ q → refreshed (running a q) ≡ refreshed (running (keccak_p a) 0)
unfolding refreshed
refreshed_next a q h = rw (le-ltb q rate h)

pub squeezed_next : (n : ℕ) (a : List ℕ) (q : ℕ) → rate ≤ q → squeezed n (running a q) ≡ squeezed n (running (keccak_p a) 0)
unfolding squeezed squeezed_byte after_byte
squeezed_next zero a q h = refl
squeezed_next (suc n) a q h =
    ap (λ (t : Running). byte_at t.lanes t.position ∷ squeezed n (running t.lanes (t.position + 1))) (refreshed_next a q h)

after_next : (n : ℕ) (a : List ℕ) (q : ℕ) → rate ≤ q → 0 < n → after n (running a q) ≡ after n (running (keccak_p a) 0)
unfolding after after_byte
after_next zero a q h g = absurd (omega arith)
after_next (suc n) a q h g = ap (λ (t : Running). after n (running t.lanes (t.position + 1))) (refreshed_next a q h)

-- k whole blocks after it
squeezed_blocks : (k : ℕ) (a : List ℕ)
    → (squeezed (k * rate) (running a rate) ≡ squeeze k (keccak_p a)) × (after (k * rate) (running a rate) ≡ running (permuted k a) rate)
unfolding squeezed after squeeze permuted
squeezed_blocks zero a = (refl, refl)
squeezed_blocks (suc k) a =
    let b : List ℕ = keccak_p a in
    let e : suc k * rate ≡ rate + k * rate = omega arith in
    let one : after rate (running b 0) ≡ running b rate = after_in rate b 0 (omega arith) in
    let rest = squeezed_blocks k b in (
      squeezed_next (suc k * rate) a rate (omega arith)
          ∙ ap (λ (m : ℕ). squeezed m (running b 0)) e
          ∙ squeezed_add rate (k * rate) (running b 0)
          ∙ ap₂ (λ (x y : List ℕ). x ++ y) (squeezed_in rate b 0 (omega arith)) (ap (squeezed (k * rate)) one ∙ rest.0),
      after_next (suc k * rate) a rate (omega arith) (omega arith)
          ∙ ap (λ (m : ℕ). after m (running b 0)) e
          ∙ after_add rate (k * rate) (running b 0)
          ∙ ap (after (k * rate)) one
          ∙ rest.1,
    )

-- ---- l filled from a place on, after a block that is spent: y is l with k whole blocks, which end at the place `at`

module _ (l a b y : List ℕ) (from k at : ℕ) (ea : at ≡ from + k * rate) (eb : b ≡ permuted k a) (ey : y ≡ sets l from (squeeze k (keccak_p a))) where
  with_blocks : y ≡ sets l from (squeezed (k * rate) (running a rate))
  with_blocks = ey ∙ ap (sets l from) (sym (squeezed_blocks k a).0)

  after_blocks : after (k * rate) (running a rate) ≡ running b rate
  after_blocks = (squeezed_blocks k a).1 ∙ ap (λ (x : List ℕ). running x rate) (sym eb)

  -- they are all
  pub squeezed_to_end : length l ≤ at → k * rate ≤ length l - from
      → (running b rate ≡ after (length l - from) (running a rate)) × (y ≡ sets l from (squeezed (length l - from) (running a rate)))
  squeezed_to_end h g =
      let e : k * rate ≡ length l - from = omega arith in
      (sym after_blocks ∙ ap (λ (m : ℕ). after m (running a rate)) e, with_blocks ∙ ap (λ (m : ℕ). sets l from (squeezed m (running a rate))) e)

  -- z has m bytes more, of the next block
  pub squeezed_from : (d z : List ℕ) (m : ℕ) → at + m ≡ length l → 0 < m → m ≤ rate → d ≡ keccak_p b → z ≡ sets y at (bytes_at d 0 m)
      → (running d m ≡ after (length l - from) (running a rate)) × (z ≡ sets l from (squeezed (length l - from) (running a rate)))
  squeezed_from d z m e g r ed ez =
      let total : k * rate + m ≡ length l - from = omega arith in
      let counted : m ≡ 0 + m = omega arith in
      let lanes : after m (running b rate) ≡ running d m
      = after_next m b rate (omega arith) g
      ∙ ap (λ (x : List ℕ). after m (running x 0)) (sym ed) ∙ after_in m d 0 (omega arith) ∙ ap (running d) (sym counted) in
      let bytes : squeezed m (running b rate) ≡ bytes_at d 0 m
      = squeezed_next m b rate (omega arith) ∙ ap (λ (x : List ℕ). squeezed m (running x 0)) (sym ed) ∙ squeezed_in m d 0 (omega arith) in (
        sym lanes
            ∙ ap (after m) (sym after_blocks)
            ∙ sym (after_add (k * rate) m (running a rate))
            ∙ ap (λ (i : ℕ). after i (running a rate)) total,
        ez
            ∙ ap₂ (λ (u v : List ℕ). sets u at v) with_blocks (sym bytes ∙ ap (squeezed m) (sym after_blocks))
            ∙ ap (λ (i : ℕ). sets (sets l from (squeezed (k * rate) (running a rate))) i (squeezed m (after (k * rate) (running a rate)))) ea
            ∙ squeezed_on (running a rate) l from (k * rate) m
            ∙ ap (λ (i : ℕ). sets l from (squeezed i (running a rate))) total,
      )

-- ---- l filled from its start: x is l with the n bytes that are left of the block, or as many as it has room for

module _ (l a x : List ℕ) (p n : ℕ) (en : n ≡ min (rate - p) (length l - 0)) (ex : x ≡ sets l 0 (bytes_at a p n)) where
  first : x ≡ sets l 0 (squeezed n (running a p))
  first = ex ∙ ap (sets l 0) (sym (squeezed_in n a p (omega arith)))

  whole_output : (k : ℕ) → k ≡ length l → sets l 0 (squeezed k (running a p)) ≡ squeezed (length l) (running a p)
  whole_output k e =
      ap (λ (i : ℕ). sets l 0 (squeezed i (running a p))) e
      ∙ sets_all l (squeezed (length l) (running a p)) (length_squeezed (length l) (running a p))

  -- they are all
  pub squeezed_begun : length l ≤ n → (running a (p + n) ≡ after (length l) (running a p)) × (x ≡ squeezed (length l) (running a p))
  squeezed_begun h =
      let e : n ≡ length l = omega arith in
      (sym (after_in n a p (omega arith)) ∙ ap (λ (k : ℕ). after k (running a p)) e, first ∙ whole_output n e)

  -- y has the rest, which comes after the block
  pub squeezed_past : (b y : List ℕ) (r : ℕ) → n < length l → length x ≡ length l → running b r ≡ after (length x - n) (running a rate)
      → y ≡ sets x n (squeezed (length x - n) (running a rate)) → (running b r ≡ after (length l) (running a p)) × (y ≡ squeezed (length l) (running a p))
  squeezed_past b y r h s f g =
      let m : ℕ = length l - n in
      let e : n + m ≡ length l = omega arith in
      let em : length x - n ≡ m = omega arith in
      let over : rate ≤ p + n = omega arith in
      let spent : after n (running a p) ≡ running a (p + n) = after_in n a p (omega arith) in
      let lanes : after m (running a rate) ≡ after m (after n (running a p))
      = after_next m a rate (omega arith) (omega arith) ∙ sym (ap (after m) spent ∙ after_next m a (p + n) over (omega arith)) in
      let bytes : squeezed m (running a rate) ≡ squeezed m (after n (running a p))
      = squeezed_next m a rate (omega arith) ∙ sym (ap (squeezed m) spent ∙ squeezed_next m a (p + n) over) in
      let place : n ≡ 0 + n = omega arith in (
        f
            ∙ ap (λ (k : ℕ). after k (running a rate)) em
            ∙ lanes
            ∙ sym (after_add n m (running a p))
            ∙ ap (λ (k : ℕ). after k (running a p)) e,
        g
            ∙ ap₂ (λ (u v : List ℕ). sets u n v) first (ap (λ (k : ℕ). squeezed k (running a rate)) em ∙ bytes)
            ∙ ap (λ (k : ℕ). sets (sets l 0 (squeezed n (running a p))) k (squeezed m (after n (running a p)))) place
            ∙ squeezed_on (running a p) l 0 n m
            ∙ whole_output (n + m) e,
      )
