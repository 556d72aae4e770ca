-- Calls in a row: what one call more of `absorb`, `pad_zeros` or `finish` adds to the input absorbed so far.
use mathlib.Core.Path.{◌≡◌, sym, ap, ◌∙◌}
use mathlib.Core.List.{List, ◌++◌}
use Prim.Native.Nat.{ℕ, ◌+◌, ◌%◌, ◌<◌}
use native.Mathlib.Nat.{mod-eq_of_lt}
use native.Mathlib.Omega.{arith}
use lib.ListN.{length, replicate}
use Rattle.encode.specs.Padding.{rate, shortfall}
use Rattle.sponge.specs.Running.{Running, running, absorbed, finished}
use Rattle.sponge.proofs.Absorbing.{absorbed_append}
use Rattle.sponge.proofs.Whole.{absorbed_position}

-- the sponge stands with the lanes a at the position p, after the input xs; then with the lanes b at the position q
module _ (s : Running) (a b xs : List ℕ) (p q : ℕ) (h : p < rate) (e : running a p ≡ absorbed s xs) where
  at_position : running a (p % rate) ≡ absorbed s xs
  at_position = ap (running a) (mod-eq_of_lt h) ∙ e

  pub then_absorbed : (ys : List ℕ) → running b q ≡ absorbed (running a (p % rate)) ys → running b q ≡ absorbed s (xs ++ ys)
  then_absorbed ys f = f ∙ ap (λ (u : Running). absorbed u ys) at_position ∙ sym (absorbed_append s xs ys)

  -- zeros to the end of the block
  pub then_padded : s.position ≡ 0 → running b q ≡ absorbed (running a (p % rate)) (replicate (shortfall rate p) 0)
      → running b q ≡ absorbed s (xs ++ replicate (shortfall rate (length xs)) 0)
  then_padded begins f =
      let k : p ≡ (s.position + length xs) % rate = ap (λ (u : Running). u.position) e ∙ absorbed_position xs s.lanes s.position (omega arith) in
      then_absorbed (replicate (shortfall rate p) 0) f ∙ ap (λ (n : ℕ). absorbed s (xs ++ replicate n 0)) (omega (arith, k, begins))

  pub then_finished : (suffix : ℕ) → running b q ≡ finished suffix (running a (p % rate)) → running b q ≡ finished suffix (absorbed s xs)
  then_finished suffix f = f ∙ ap (finished suffix) at_position
