-- The sponge a byte at a time is the sponge of FIPS 202 by blocks: `squeezed_whole`.
use mathlib.Core.Path.{◌≡◌, refl, sym, ap, ap₂, ◌∙◌}
use mathlib.Core.List.{List, [], ◌∷◌, ◌++◌}
use Prim.Native.Nat.{ℕ, zero, suc, ◌+◌, ◌-◌, ◌*◌, ◌/◌, ◌%◌, ◌≤◌, ◌<◌}
use native.Mathlib.Nat.{zero-add}
use native.Mathlib.Decide.{dec_le}
use native.Mathlib.Omega.{arith}
use lib.ListN.{length, take, drop, replicate, length-replicate}
use lib.Seq.{take-append-le, take-append-add, take-length, take_at, drop_at}
use Rattle.fips202.specs.Fips202.{keccak_p}
use Rattle.encode.specs.Padding.{rate, blocks, padding, padded}
use Rattle.encode.proofs.Laws.Padding.{padded_split, padding_set, length_padding}
use Rattle.encode.proofs.Laws.Lengths.{length_padded}
use Rattle.fips202.specs.Bytes.{xor_byte, xor_bytes, bytes_at}
use Rattle.fips202.specs.Laws.Bytes.{xor_bytes-set, xor_bytes-zeros, bytes_at-append, length_bytes_at}
use Rattle.blocks_in.specs.Blocks.{absorb}
use Rattle.blocks_out.specs.Blocks.{squeeze}
use Rattle.sponge.specs.Sponge.{sponge}
use Rattle.sponge.specs.Same.{SameSponge}
use Rattle.sponge.specs.Running.{Running, running, fresh, absorbed, finished, squeezed, after}
use Rattle.sponge.proofs.Absorbing.{absorb_byte_in, absorb_byte_last, absorbed_append, absorbed_block, absorbed_blocks}
use Rattle.sponge.proofs.Squeezing.{squeezed_add, length_squeezed, squeezed_in, after_in, squeezed_next}

-- ---- the position

pub absorbed_position : (bs a : List ℕ) (p : ℕ) → p < rate → (absorbed (running a p) bs).position ≡ (p + length bs) % rate
unfolding absorbed
absorbed_position [] a p h = omega arith
absorbed_position (b ∷ bs) a p h = elim (dec_le (rate - 1) p) [
  | yes k ↦ ap (λ (s : Running). (absorbed s bs).position) (absorb_byte_last a p b k)
      ∙ absorbed_position bs (keccak_p (xor_byte a p b)) 0 (omega arith)
      ∙ omega arith
  | no k ↦ ap (λ (s : Running). (absorbed s bs).position) (absorb_byte_in a p b (omega arith))
      ∙ absorbed_position bs (xor_byte a p b) (p + 1) (omega arith)
      ∙ ap (λ (x : ℕ). x % rate) (omega arith)
]

-- ---- the end of the input

xor_padding : (suffix : ℕ) (a : List ℕ) (p : ℕ) → p < rate → xor_bytes a p (padding suffix (rate - p)) ≡ xor_byte (xor_byte a p suffix) (rate - 1) 0x80
unfolding xor_bytes
xor_padding suffix a p h =
    ap (xor_bytes a p) (padding_set suffix (rate - p))
    ∙ xor_bytes-set (suffix ∷ replicate (rate - p - 1) 0) a p (rate - p - 1) 0x80 (omega (arith, length-replicate {A = ℕ} (rate - p - 1) 0))
    ∙ ap (λ (r : List ℕ). xor_byte r (p + (rate - p - 1)) 0x80) (xor_bytes-zeros (rate - p - 1) (xor_byte a p suffix) (p + 1))
    ∙ ap (λ (k : ℕ). xor_byte (xor_byte a p suffix) k 0x80) (omega arith)

pub absorbed_padding : (suffix : ℕ) (a : List ℕ) (p : ℕ) → p < rate → absorbed (running a p) (padding suffix (rate - p)) ≡ finished suffix (running a p)
unfolding finished
absorbed_padding suffix a p h =
    absorbed_block (padding suffix (rate - p)) a p h (ap (λ (x : ℕ). p + x) (length_padding suffix (rate - p) (omega arith)) ∙ omega arith)
    ∙ ap (λ (r : List ℕ). running (keccak_p r) 0) (xor_padding suffix a p h)

-- input that was absorbed in any pieces, then finished, is the padded input absorbed by blocks
pub absorbed_whole : (suffix : ℕ) (m : List ℕ) → finished suffix (absorbed fresh m)
    ≡ running (absorb (length (padded suffix m) / rate) (replicate 25 0) (padded suffix m)) 0
absorbed_whole suffix m =
    let f : Running = absorbed fresh m in
    let e : f.position ≡ length m % rate
    = absorbed_position m (replicate 25 0) 0 (omega arith) ∙ ap (λ (x : ℕ). x % rate) (zero-add (length m)) in
    let q : ℕ = rate - length m % rate in
    let n : length (padded suffix m) ≡ length (padded suffix m) / rate * rate = omega (arith, length_padded suffix m) in
    sym (absorbed_padding suffix f.lanes f.position (omega arith))
    ∙ ap (λ (x : ℕ). absorbed f (padding suffix (rate - x))) e
    ∙ sym (absorbed_append fresh m (padding suffix q))
    ∙ ap (absorbed fresh) (sym (padded_split suffix m))
    ∙ ap (absorbed fresh) (sym (take-length (padded suffix m)) ∙ ap (λ (k : ℕ). take k (padded suffix m)) n)
    ∙ absorbed_blocks (length (padded suffix m) / rate) (replicate 25 0) (padded suffix m) (omega arith)

-- ---- the output

take_bytes_at : (n k : ℕ) (a : List ℕ) (p : ℕ) → take n (bytes_at a p (n + k)) ≡ bytes_at a p n
take_bytes_at n k a p =
    ap (take n) (bytes_at-append n k a p)
    ∙ take-append-le n (bytes_at a p n) (bytes_at a (p + n) k) (omega (arith, length_bytes_at n a p))
    ∙ ap (λ (x : ℕ). take x (bytes_at a p n)) (sym (length_bytes_at n a p))
    ∙ take-length (bytes_at a p n)

squeezed_none : (n : ℕ) (a : List ℕ) → n ≤ 0 → squeezed n (running a 0) ≡ take n []
unfolding squeezed
squeezed_none zero a h = refl
squeezed_none (suc n) a h = absurd (omega arith)

pub squeezed_squeeze : (k : ℕ) (a : List ℕ) (n : ℕ) → n ≤ k * rate → squeezed n (running a 0) ≡ take n (squeeze k a)
unfolding squeeze
squeezed_squeeze zero a n h = squeezed_none n a (omega arith)
squeezed_squeeze (suc k) a n h = elim (dec_le n rate) [
  | yes l ↦ squeezed_in n a 0 (omega arith)
      ∙ sym (take-append-le n (bytes_at a 0 rate) (squeeze k (keccak_p a)) (omega (arith, length_bytes_at rate a 0))
      ∙ ap (λ (x : ℕ). take n (bytes_at a 0 x)) (omega arith) ∙ take_bytes_at n (rate - n) a 0)
  | no l ↦
      let e : n ≡ rate + (n - rate) = omega arith in
      ap (λ (x : ℕ). squeezed x (running a 0)) e
      ∙ squeezed_add rate (n - rate) (running a 0)
      ∙ ap₂ (λ (x y : List ℕ). x ++ y) (squeezed_in rate a 0 (omega arith))
      (ap (squeezed (n - rate)) (after_in rate a 0 (omega arith))
      ∙ squeezed_next (n - rate) a rate (omega arith)
      ∙ squeezed_squeeze k (keccak_p a) (n - rate) (omega arith))
      ∙ sym (take-append-add (bytes_at a 0 rate) (squeeze k (keccak_p a)) (n - rate))
      ∙ ap (λ (x : ℕ). take x (bytes_at a 0 rate ++ squeeze k (keccak_p a))) (ap (λ (x : ℕ). x + (n - rate)) (length_bytes_at rate a 0) ∙ sym e)
]

-- ---- together: the one-shot answer

pub squeezed_whole : SameSponge
unfolding sponge
squeezed_whole suffix m n =
    ap (squeezed n) (absorbed_whole suffix m)
    ∙ squeezed_squeeze (blocks n) (absorb (length (padded suffix m) / rate) (replicate 25 0) (padded suffix m)) n (omega arith)

-- ---- a shorter output is the beginning of a longer one

-- the lanes that all input has been absorbed into
abbrev pub all_absorbed : List ℕ → List ℕ
all_absorbed m = absorb (length m / rate) (replicate 25 0) m

pub sponge_running : (m : List ℕ) (n : ℕ) → sponge m n ≡ squeezed n (running (all_absorbed m) 0)
unfolding sponge
sponge_running m n = sym (squeezed_squeeze (blocks n) (all_absorbed m) n (omega arith))

module _ (n k : ℕ) (s : Running) where
  pub squeezed_take : take n (squeezed (n + k) s) ≡ squeezed n s
  squeezed_take = ap (take n) (squeezed_add n k s) ∙ take_at (squeezed n s) (squeezed k (after n s)) n (length_squeezed n s)

  pub squeezed_drop : drop n (squeezed (n + k) s) ≡ squeezed k (after n s)
  squeezed_drop = ap (drop n) (squeezed_add n k s) ∙ drop_at (squeezed n s) (squeezed k (after n s)) n (length_squeezed n s)

pub sponge_prefix : (m : List ℕ) (n l : ℕ) → n ≤ l → take n (sponge m l) ≡ sponge m n
sponge_prefix m n l h =
    let e : l ≡ n + (l - n) = omega arith in
    ap (take n) (sponge_running m l ∙ ap (λ (k : ℕ). squeezed k (running (all_absorbed m) 0)) e)
    ∙ squeezed_take n (l - n) (running (all_absorbed m) 0)
    ∙ sym (sponge_running m n)

pub length_sponge : (m : List ℕ) (n : ℕ) → length (sponge m n) ≡ n
length_sponge m n = ap length (sponge_running m n) ∙ length_squeezed n (running (all_absorbed m) 0)

-- ---- zeros to the block's end

pub absorbed_zeros : (a : List ℕ) (p : ℕ) → 0 < p → p < rate → absorbed (running a p) (replicate ((rate - p) % rate) 0) ≡ running (keccak_p a) 0
absorbed_zeros a p k h =
    let e : (rate - p) % rate ≡ rate - p = omega arith in
    ap (λ (n : ℕ). absorbed (running a p) (replicate n 0)) e
    ∙ absorbed_block (replicate (rate - p) 0) a p h (simp length-replicate (omega arith))
    ∙ ap (λ (r : List ℕ). running (keccak_p r) 0) (xor_bytes-zeros (rate - p) a p)
