-- A block put in where the lanes stand is the block put in by bytes: `block_in`.
use mathlib.Core.Path.{◌≡◌, refl, sym, ap, ap₂, ◌∙◌, subst}
use mathlib.Core.Bool.{Bool, true, false, cond}
use mathlib.Core.List.{List}
use Prim.Native.Nat.{ℕ, zero, suc, ◌+◌, ◌*◌, ◌/◌, ◌%◌, ◌≤◌}
use native.Mathlib.Nat.{zero-add}
use native.Mathlib.Omega.{arith}
use lib.Bits.{bit_xor}
use lib.Dec.{ltb}
use lib.ListN.{length, get_or, take, drop}
use Rattle.fips202.specs.Fips202.{table_from}
use Rattle.fips202.specs.Bytes.{xor_bytes}
use Rattle.fips202.specs.Laws.Xor.{xor_swap}
use Rattle.fips202.specs.Laws.Lanes.{same_table, written_out}
use Rattle.encode.specs.Padding.{rate}
use Rattle.in_place.specs.Complemented.{under, masked, between_rounds, complemented}
use Rattle.in_place.specs.Places.{Places, standing, Known, pick, lanes}
use Rattle.in_place.specs.Rounds.{state_of}
use Rattle.in_place.specs.Laws.Passes.{by_places}
use Rattle.lanes_in.specs.Words.{word_at}
use Rattle.lanes_in.specs.Laws.Lanes.{EachByte, word_is, lane_put, more_put}
use Rattle.blocks_in.specs.Columns.{xored_at, evens_with, odds_with}

module _ (s : List ℕ) (at : ℕ) where
  -- ---- the lanes with a block, which has rate / 8 words

  -- where the word for lane i stands, by rows as the code has it
  abbrev word_place : ℕ → ℕ
  word_place i = pick (i % 5) (at + 40 * (i / 5)) (at + 40 * (i / 5) + 8 * (i % 5))

  picked : (k m x : ℕ) → k ≡ x → pick x m (m + 8 * x) ≡ m + 8 * k
  picked k m zero e = omega arith
  picked k m (suc x) e = omega arith

  place_is : (i : ℕ) → word_place i ≡ at + 8 * i
  place_is i = picked (i % 5) (at + 40 * (i / 5)) (i % 5) refl ∙ omega arith

  abbrev lane_with : List ℕ → ℕ → ℕ
  lane_with a i = cond (ltb i (rate / 8)) (bit_xor (get_or a i 0) (word_at s (word_place i))) (get_or a i 0)

  unfoldable block_with : List ℕ → List ℕ
  block_with a = table_from 25 0 (lane_with a)

  -- ---- where the lanes stand

  abbrev pub evens_after : List ℕ → List ℕ
  evens_after p = xored_at (evens_with 2 s at (evens_with 1 s at (evens_with 0 s at p))) 9 (word_at s (at + 120))

  abbrev pub odds_after : List ℕ → List ℕ
  odds_after q = xored_at (odds_with 2 s at (odds_with 1 s at (odds_with 0 s at q))) 6 (word_at s (at + 120 + 8))

  in_places : (x : Places) → Known x → lanes 0 (standing (evens_after x.p) (odds_after x.q)) ≡ block_with (lanes 0 x)
  unfolding lanes block_with
  in_places = by_places (λ x. lanes 0 (standing (evens_after x.p) (odds_after x.q)) ≡ block_with (lanes 0 x)) (λ f g. refl)

  -- ---- under the masks

  under_xor : (m x w : ℕ) → under m (bit_xor x w) ≡ bit_xor (under m x) w
  under_xor zero x w = refl
  under_xor (suc m) x w = xor_swap x w (suc m)

  under_with : (b : Bool) (m x w : ℕ) → under m (cond b (bit_xor x w) x) ≡ cond b (bit_xor (under m x) w) (under m x)
  under_with true m x w = under_xor m x w
  under_with false m x w = refl

  complemented_with : (a : List ℕ) → complemented (block_with a) ≡ block_with (complemented a)
  unfolding complemented masked block_with
  complemented_with a =
      let m : ℕ → ℕ = λ i. get_or between_rounds i 0 in
      let x : ℕ → ℕ = λ i. get_or a i 0 in
      let w : ℕ → ℕ = λ i. word_at s (word_place i) in
      same_table 25 0 (λ i. under (m i) (cond (ltb i (rate / 8)) (bit_xor (x i) (w i)) (x i)))
      (λ i. cond (ltb i (rate / 8)) (bit_xor (under (m i) (x i)) (w i)) (under (m i) (x i)))
      (λ i. under_with (ltb i (rate / 8)) (m i) (x i) (w i))

  -- ---- word by word, and byte by byte

  words_in : ℕ → List ℕ → List ℕ
  words_in zero a = a
  words_in (suc n) a = xored_at (words_in n a) n (word_at s (word_place n))

  with_words : (a : List ℕ) → length a ≡ 25 → block_with a ≡ words_in (rate / 8) a
  unfolding block_with words_in
  with_words a h = subst (λ (xs : List ℕ). block_with xs ≡ words_in (rate / 8) xs) (sym (written_out a h)) refl

  words_are : (n : ℕ) (a : List ℕ) → EachByte s → at + 8 * n ≤ length s → words_in n a ≡ xor_bytes a 0 (take (8 * n) (drop at s))
  unfolding words_in xor_bytes
  words_are zero a b h = refl
  words_are (suc n) a b h =
      let e : 8 * suc n ≡ 8 * n + 8 = omega arith in
      let q : 8 * n / 8 ≡ n = omega arith in
      let put = lane_put s (words_in n a) (8 * n) (at + 8 * n) (omega arith) b in
      ap (xored_at (words_in n a) n) (ap (word_at s) (place_is n) ∙ word_is s (at + 8 * n) (omega arith))
      ∙ rw q at put
      ∙ ap (λ (r : List ℕ). xor_bytes r (8 * n) (take 8 (drop (at + 8 * n) s))) (words_are n a b (omega arith))
      ∙ rw zero-add at (more_put s a 0 at (8 * n) 8 (omega arith))
      ∙ ap (λ (k : ℕ). xor_bytes a 0 (take k (drop at s))) (sym e)

  -- ---- together

  pub block_in : (p q p' q' : List ℕ) → Known (standing p q) → EachByte s → at + rate ≤ length s → p' ≡ evens_after p → q' ≡ odds_after q
      → state_of p' q' ≡ xor_bytes (state_of p q) 0 (take rate (drop at s))
  unfolding complemented masked
  block_in p q p' q' k b h ep eq =
      ap₂ state_of ep eq
      ∙ ap complemented (in_places (standing p q) k)
      ∙ complemented_with (lanes 0 (standing p q))
      ∙ with_words (state_of p q) refl
      ∙ words_are (rate / 8) (state_of p q) b h
