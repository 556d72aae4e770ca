-- One block more: what is left to squeeze after it gives what was left before it.
use mathlib.Core.Path.{◌≡◌, sym, ap, ◌∙◌}
use mathlib.Core.List.{List}
use Prim.Native.Nat.{ℕ, suc, ◌+◌, ◌-◌, ◌*◌, ◌≤◌, ◌<◌}
use native.Mathlib.Omega.{arith}
use lib.ListN.{length}
use Rattle.std.specs.Prelude.{◌++◌, take, drop, min}
use Rattle.std.proofs.Common.{append-nil, append_assoc, length-take, length-drop}
use Rattle.std.proofs.lemmas.List.{drop_all}
use Rattle.std.proofs.lemmas.List.Edits.{sets, sets-eq}
use lib.Seq.{drop-drop}
use borrow.Rule.Slice.PartMut.{mid_of, put_mid}
use Rattle.fips202.specs.Fips202.{keccak_p}
use Rattle.fips202.specs.Bytes.{bytes_at}
use Rattle.fips202.specs.Laws.Bytes.{length_bytes_at}
use Rattle.encode.specs.Padding.{rate, whole_blocks}
use Rattle.encode.proofs.Laws.Lengths.{one_block_fewer, no_whole_block}
use Rattle.stores.specs.Laws.{sets_append}
use Rattle.in_place.specs.Rounds.{rounds_with, RoundConstants}
use Rattle.in_place.specs.Laws.Turns.{permutation}
use Rattle.blocks_out.specs.Blocks.{squeeze, permuted}

-- bytes that fill a list are what it becomes
filled : (m vs : List ℕ) → length m ≡ length vs → sets m 0 vs ≡ vs
filled m vs h =
    sets-eq vs m 0 (omega arith)
    ∙ ap (λ (r : List ℕ). vs ++ r) (drop_all (0 + length vs) m (omega arith))
    ∙ append-nil vs

-- a block that fills the k bytes of l from `at` on, k being a block's length, is written into l there
pub part_filled : (at k n : ℕ) (l b ys : List ℕ) → k ≡ rate → at + rate ≤ length l → n ≡ min (rate - 0) (length (mid_of at k l) - 0)
    → ys ≡ sets (mid_of at k l) 0 (bytes_at b 0 n) → put_mid at k l ys ≡ sets l at (bytes_at b 0 rate)
part_filled at k n l b ys ek h en ey =
    let m : length (mid_of at k l) ≡ rate = omega (arith, length-take k (drop at l), length-drop at l) in
    let w : n ≡ rate = omega arith in
    let vs : List ℕ = bytes_at b 0 rate in
    let v : length vs ≡ rate = length_bytes_at rate b 0 in
    let e : ys ≡ vs = ey ∙ ap (λ (i : ℕ). sets (mid_of at k l) 0 (bytes_at b 0 i)) w ∙ filled (mid_of at k l) vs (m ∙ sym v) in
    let r : drop k (drop at l) ≡ drop (at + length vs) l = drop-drop k at l ∙ ap (λ (i : ℕ). drop (at + i) l) (ek ∙ sym v) in
    ap (λ (zs : List ℕ). put_mid at k l zs) e
    ∙ ap (λ (zs : List ℕ). take at l ++ (vs ++ zs)) r
    ∙ sym (append_assoc (take at l) vs (drop (at + length vs) l))
    ∙ sym (sets-eq vs l at (omega arith))

-- s is `out` as it was lent: how many blocks it has room for hangs on its length alone
module _ (s : List ℕ) (at : ℕ) where
  -- b stands after the permutation of a, and its block goes into l
  module _ (ks a b : List ℕ) (hk : RoundConstants ks) (h : at + rate ≤ length s) (e : b ≡ rounds_with 24 ks a) where
    next : b ≡ keccak_p a
    next = e ∙ permutation ks a hk

    pub lanes_after : permuted (whole_blocks s (at + rate)) b ≡ permuted (whole_blocks s at) a
    unfolding permuted
    lanes_after = ap (permuted (whole_blocks s (at + rate))) next ∙ ap (λ (k : ℕ). permuted k a) (sym (one_block_fewer s at h))

    pub out_after : (l : List ℕ)
        → sets (sets l at (bytes_at b 0 rate)) (at + rate) (squeeze (whole_blocks s (at + rate)) (keccak_p b))
        ≡ sets l at (squeeze (whole_blocks s at) (keccak_p a))
    unfolding squeeze
    out_after l =
        let n : ℕ = whole_blocks s (at + rate) in
        ap (λ (k : ℕ). sets (sets l at (bytes_at b 0 rate)) (at + k) (squeeze n (keccak_p b))) (sym (length_bytes_at rate b 0))
        ∙ sym (sets_append l at (bytes_at b 0 rate) (squeeze n (keccak_p b)))
        ∙ ap (λ (x : List ℕ). sets l at (squeeze (suc n) x)) next
        ∙ ap (λ (k : ℕ). sets l at (squeeze k (keccak_p a))) (sym (one_block_fewer s at h))

  -- no block is left
  pub lanes_stay : (a : List ℕ) → length s < at + rate → permuted (whole_blocks s at) a ≡ a
  unfolding permuted
  lanes_stay a h = ap (λ (k : ℕ). permuted k a) (no_whole_block s at h)

  pub out_stays : (l a : List ℕ) → length s < at + rate → sets l at (squeeze (whole_blocks s at) a) ≡ l
  unfolding squeeze
  out_stays l a h = ap (λ (k : ℕ). sets l at (squeeze k a)) (no_whole_block s at h)

  pub no_block : (a : List ℕ) → length s < at + rate
      → (at ≡ at + whole_blocks s at * rate) × (a ≡ permuted (whole_blocks s at) a) × (s ≡ sets s at (squeeze (whole_blocks s at) (keccak_p a)))
  no_block a h = (omega arith, sym (lanes_stay a h), sym (out_stays s (keccak_p a) h))
