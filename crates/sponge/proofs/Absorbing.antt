-- Laws of the sponge a byte at a time: input in pieces of any size.
use mathlib.Core.Path.{◌≡◌, refl, sym, ap, ap₂, ◌∙◌}
use mathlib.Core.List.{List, [], ◌∷◌, ◌++◌}
use Prim.Native.Nat.{ℕ, zero, suc, ◌+◌, ◌-◌, ◌*◌, ◌≤◌, ◌<◌, min}
use native.Mathlib.Nat.{add-zero}
use native.Mathlib.Omega.{arith}
use lib.ListN.{length, take, drop, take-append-drop, length-take, length-drop}
use lib.Seq.{take-add, take_all, drop-drop}
use borrow.Author.Tests.{lt-ltb, le-ltb}
use Rattle.fips202.specs.Fips202.{keccak_p}
use Rattle.fips202.specs.Bytes.{xor_byte, xor_bytes}
use Rattle.encode.specs.Padding.{rate, whole_blocks}
use Rattle.blocks_in.specs.Blocks.{absorb}
use Rattle.sponge.specs.Running.{Running, running, absorb_byte, absorbed}

pub absorb_byte_in : (a : List ℕ) (p b : ℕ) → p < rate - 1 → absorb_byte (running a p) b ≡ running (xor_byte a p b) (p + 1)
unfolding absorb_byte
absorb_byte_in a p b h = rw (lt-ltb p (rate - 1) h)

pub absorb_byte_last : (a : List ℕ) (p b : ℕ) → rate - 1 ≤ p → absorb_byte (running a p) b ≡ running (keccak_p (xor_byte a p b)) 0
unfolding absorb_byte
absorb_byte_last a p b h = rw (le-ltb p (rate - 1) h)

pub absorbed_append : (s : Running) (xs ys : List ℕ) → absorbed s (xs ++ ys) ≡ absorbed (absorbed s xs) ys
unfolding absorbed
absorbed_append s [] ys = refl
absorbed_append s (x ∷ xs) ys = absorbed_append (absorb_byte s x) xs ys

-- bytes that don't fill the block
pub absorbed_in : (bs a : List ℕ) (p : ℕ) → p + length bs < rate → absorbed (running a p) bs ≡ running (xor_bytes a p bs) (p + length bs)
unfolding absorbed xor_bytes
absorbed_in [] a p h = ap (running a) (sym (add-zero p))
absorbed_in (b ∷ bs) a p h =
    ap (λ (s : Running). absorbed s bs) (absorb_byte_in a p b (omega arith))
    ∙ absorbed_in bs (xor_byte a p b) (p + 1) (omega arith)
    ∙ ap (running (xor_bytes (xor_byte a p b) (p + 1) bs)) (omega arith)

-- bytes that fill it
pub absorbed_block : (bs a : List ℕ) (p : ℕ) → p < rate → p + length bs ≡ rate → absorbed (running a p) bs ≡ running (keccak_p (xor_bytes a p bs)) 0
unfolding absorbed xor_bytes
absorbed_block [] a p k h = absurd (omega arith)
absorbed_block (b ∷ []) a p k h = absorb_byte_last a p b (omega arith)
absorbed_block (b ∷ (d ∷ bs)) a p k h =
    ap (λ (s : Running). absorbed s (d ∷ bs)) (absorb_byte_in a p b (omega arith))
    ∙ absorbed_block (d ∷ bs) (xor_byte a p b) (p + 1) (omega arith) (omega arith)

-- n whole blocks: the definition by blocks
pub absorbed_blocks : (n : ℕ) (a m : List ℕ) → n * rate ≤ length m → absorbed (running a 0) (take (n * rate) m) ≡ running (absorb n a m) 0
unfolding absorbed absorb
absorbed_blocks zero a m h = refl
absorbed_blocks (suc n) a m h =
    let e : suc n * rate ≡ rate + n * rate = omega arith in
    ap (absorbed (running a 0)) (ap (λ (k : ℕ). take k m) e ∙ take-add rate (n * rate) m)
    ∙ absorbed_append (running a 0) (take rate m) (take (n * rate) (drop rate m))
    ∙ ap (λ (s : Running). absorbed s (take (n * rate) (drop rate m))) (absorbed_block (take rate m) a 0 (omega arith) (simp length-take (omega arith)))
    ∙ absorbed_blocks n (keccak_p (xor_bytes a 0 (take rate m))) (drop rate m) (simp length-drop (omega arith))

-- ---- a piece l of input, from a place on where a block begins: i is the place after its whole blocks, of which n bytes are left

pub absorbed_from : (l a b c : List ℕ) (from i n : ℕ) → i ≡ from + whole_blocks l from * rate → b ≡ absorb (whole_blocks l from) a (drop from l)
    → n ≡ min rate (length l - i) → c ≡ xor_bytes b 0 (take n (drop i l)) → (running c n ≡ absorbed (running a 0) (drop from l)) × (n < rate)
absorbed_from l a b c from i n ei eb en ec =
    let k : ℕ = whole_blocks l from in
    let m : List ℕ = drop from l in
    let rest : List ℕ = drop i l in
    let h : length rest ≡ length l - i = length-drop i l in
    let e : drop (k * rate) m ≡ rest = drop-drop (k * rate) from l ∙ ap (λ (x : ℕ). drop x l) (sym ei) in
    let t : take n rest ≡ rest = take_all n rest (omega arith) in (
      sym
          (ap (absorbed (running a 0)) (sym (take-append-drop (k * rate) m))
          ∙ absorbed_append (running a 0) (take (k * rate) m) (drop (k * rate) m)
          ∙ ap₂ absorbed (absorbed_blocks k a m (simp length-drop (omega arith))) e
          ∙ absorbed_in rest (absorb k a m) 0 (omega arith)
          ∙ ap₂ running (ap₂ (λ (x y : List ℕ). xor_bytes x 0 y) (sym eb) (sym t) ∙ sym ec) (omega arith)),
      omega arith,
    )

-- ---- a piece l in a block that has begun: n bytes are put in first

-- they are all of it
pub absorbed_begun : (l a b : List ℕ) (p n : ℕ) → n ≡ min (rate - p) (length l) → b ≡ xor_bytes a p (take n l) → p + n < rate
    → running b (p + n) ≡ absorbed (running a p) l
absorbed_begun l a b p n en eb h =
    let t : take n l ≡ l = take_all n l (omega arith) in
    sym (absorbed_in l a p (omega arith) ∙ ap₂ running (ap (xor_bytes a p) (sym t) ∙ sym eb) (omega arith))

-- they fill the block
pub absorbed_filled : (l a b : List ℕ) (p n : ℕ) → p < rate → n ≡ min (rate - p) (length l) → b ≡ xor_bytes a p (take n l) → rate ≤ p + n
    → absorbed (running (keccak_p b) 0) (drop n l) ≡ absorbed (running a p) l
absorbed_filled l a b p n hp en eb h =
    sym
    (ap (absorbed (running a p)) (sym (take-append-drop n l))
    ∙ absorbed_append (running a p) (take n l) (drop n l)
    ∙ ap (λ (s : Running). absorbed s (drop n l))
    (absorbed_block (take n l) a p hp (simp length-take (omega arith)) ∙ ap (λ (x : List ℕ). running (keccak_p x) 0) (sym eb)))
