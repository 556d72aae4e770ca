-- One block more: what is left to absorb after it gives what was left before it.
use mathlib.Core.Path.{◌≡◌, sym, ap, ap₂, ◌∙◌}
use mathlib.Core.List.{List}
use Prim.Native.Nat.{ℕ, ◌+◌, ◌*◌, ◌≤◌, ◌<◌}
use native.Mathlib.Omega.{arith}
use lib.ListN.{length, take, drop}
use lib.Seq.{drop-drop}
use Rattle.fips202.specs.Fips202.{keccak_p}
use Rattle.fips202.specs.Bytes.{xor_bytes}
use Rattle.encode.specs.Padding.{rate, whole_blocks}
use Rattle.encode.proofs.Laws.Lengths.{one_block_fewer, no_whole_block}
use Rattle.blocks_in.specs.Blocks.{absorb}

module _ (s : List ℕ) (at : ℕ) where
  pub one_block : (a b : List ℕ) → at + rate ≤ length s → b ≡ keccak_p (xor_bytes a 0 (take rate (drop at s)))
      → absorb (whole_blocks s (at + rate)) b (drop (at + rate) s) ≡ absorb (whole_blocks s at) a (drop at s)
  unfolding absorb
  one_block a b h e =
      let n : ℕ = whole_blocks s (at + rate) in
      sym (ap (λ (k : ℕ). absorb k a (drop at s)) (one_block_fewer s at h) ∙ ap₂ (absorb n) (sym e) (drop-drop rate at s))

  -- no block is left
  pub nothing_left : (a : List ℕ) → length s < at + rate → absorb (whole_blocks s at) a (drop at s) ≡ a
  unfolding absorb
  nothing_left a h = ap (λ (n : ℕ). absorb n a (drop at s)) (no_whole_block s at h)

  pub no_block : (a : List ℕ) → length s < at + rate
      → (at ≡ at + whole_blocks s at * rate) × (a ≡ absorb (whole_blocks s at) a (drop at s))
  no_block a h = (omega arith, sym (nothing_left a h))
