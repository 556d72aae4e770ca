-- Laws of a number written, over the number of groups: its groups one after another, how many they are, and that they read as the number.
use Rattle.std.specs.Prelude.{◌≡◌, Some, None, List, [], ◌∷◌, ◌++◌, Bool, ◌||◌, ltb}
use Rattle.std.proofs.Math.Path.{refl}
use Rattle.std.proofs.Common.{ap}
use Rattle.std.proofs.Math.Bool.{true, false, cond}
use Prim.Native.Nat.{ℕ, zero, suc, ◌+◌, ◌*◌, ◌/◌, ◌%◌, ◌≤◌, ◌<◌}
use native.Mathlib.Omega.{arith}
use Rattle.std.proofs.Math.ListN.{length}
use Rattle.std.proofs.lemmas.List.Edits.{sets}
use Rattle.std.proofs.Math.Dec.{leb}
use borrow.Author.Tests.{lt-ltb, le-ltb, ltb-false, le-leb, leb-true, leb-false}
use Rattle.leb128.specs.Number.{value, groups, number, limit, max_number}
use Rattle.leb128.specs.Laws.Reading.{limit_three}
use Rattle.leb128_write.specs.Written.{written_groups, written_number}
use Rattle.leb128_write.specs.Answers.{number_length, number_fits, written_past, number_written, unless_zero}

pub groups_last : (more v : ℕ) → v < 128 → written_groups more v ≡ v ∷ []
unfolding written_groups
groups_last zero v h = refl
groups_last (suc more) v h = ap (λ (t : Bool). cond t (v ∷ []) ((128 + v % 128) ∷ written_groups more (v / 128))) (lt-ltb v 128 h)

-- one byte or more, and at most one for each group
module _ where
  longer : (more v : ℕ) (t : Bool) → (1 ≤ length (written_groups more (v / 128))) × (length (written_groups more (v / 128)) ≤ more + 1)
      → (1 ≤ length (cond t (v ∷ []) ((128 + v % 128) ∷ written_groups more (v / 128))))
      × (length (cond t (v ∷ []) ((128 + v % 128) ∷ written_groups more (v / 128))) ≤ suc more + 1)
  longer more v true h = (omega arith, omega arith)
  longer more v false h = (omega arith, omega arith)

  pub groups_count : (more v : ℕ) → (1 ≤ length (written_groups more v)) × (length (written_groups more v) ≤ more + 1)
  unfolding written_groups
  groups_count zero v = (omega arith, omega arith)
  groups_count (suc more) v = longer more v (ltb v 128) (groups_count more (v / 128))

-- reading what was written gives the number
pub number_back : (is_first : Bool) (more at v : ℕ) (rest : List ℕ) → v < limit more → (is_first || ltb 0 v) ≡ true
    → groups is_first more at (written_groups more v ++ rest) ≡ value v (at + length (written_groups more v)) rest
unfolding groups written_groups limit
number_back is_first zero at v rest h ok = rw (lt-ltb _ _ h, ok)
number_back is_first (suc more) at v rest h ok = go (ltb v 128) refl (number_back false more (at + 1) (v / 128) rest (omega arith))
  where
    high : List ℕ
    high = written_groups more (v / 128)

    go : (b : Bool) → ltb v 128 ≡ b
        → (ltb 0 (v / 128) ≡ true → groups false more (at + 1) (high ++ rest) ≡ value (v / 128) (at + 1 + length high) rest)
        → groups is_first (suc more) at (cond b (v ∷ []) ((128 + v % 128) ∷ high) ++ rest) ≡ value v
        (at + length (cond b (v ∷ []) ((128 + v % 128) ∷ high))) rest
    go true e ih = rw (e, ok)
    go false e ih =
        let large : 128 ≤ v = ltb-false _ _ e in
        let some : 0 < v / 128 = omega arith in
        let l : 128 ≤ 128 + v % 128 = omega arith in
        let m : (128 + v % 128) % 128 + 128 * (v / 128) ≡ v = omega arith in
        let n : at + 1 + length high ≡ at + suc (length high) = omega arith in
        rw (le-ltb _ _ l, ih (lt-ltb _ _ some), m, n)

-- an answer that is not 0
pub some_answer : (n : ℕ) → 1 ≤ n → unless_zero n ≡ Some n
some_answer zero h = absurd (omega arith)
some_answer (suc n) h = refl

-- a number of three groups at most
module _ (at v : ℕ) (h : v ≤ max_number) where
  pub number_read : (rest : List ℕ) → number at (written_number v ++ rest) ≡ value v (at + length (written_number v)) rest
  number_read rest = number_back true 2 at v rest (omega (arith, limit_three)) refl

  -- there is room for it
  module _ (out : List ℕ) (room : at + length (written_number v) ≤ length out) where
    fits : number_fits at v (length out) ≡ true
    unfolding number_fits
    fits = rw (le-leb _ _ h, le-leb _ _ room)

    pub past_written : written_past at v (length out) ≡ at + length (written_number v)
    unfolding written_past
    past_written = rw fits

    pub is_written : number_written at v out ≡ sets out at (written_number v)
    unfolding number_written
    is_written = rw fits

    pub past_some : unless_zero (written_past at v (length out)) ≡ Some (at + length (written_number v))
    past_some = rw past_written (some_answer (at + length (written_number v)) (omega (arith, groups_count 2 v)))

-- the length of a number that is not above the largest
pub length_is_lem : (v : ℕ) → v ≤ max_number → number_length v ≡ length (written_number v)
unfolding number_length
length_is_lem v h = rw (le-leb _ _ h)

-- the answers: a length is that of a number which is not above the largest, and there is none only above it
module _ (v : ℕ) where
  pub length_known : (n : ℕ) → Some n ≡ unless_zero (number_length v) → (v ≤ max_number) × (n ≡ length (written_number v))
  unfolding number_length
  length_known n e = go (leb v max_number) refl e
    where
      go : (t : Bool) → leb v max_number ≡ t → Some n ≡ unless_zero (cond t (length (written_number v)) 0)
          → (v ≤ max_number) × (n ≡ length (written_number v))
      go true k q = let s = some_answer (length (written_number v)) (omega (arith, groups_count 2 v)) in (leb-true _ _ k, cc)
      go false k q = absurd cc

  pub length_none : None ≡ unless_zero (number_length v) → max_number < v
  unfolding number_length
  length_none e = go (leb v max_number) refl e
    where
      go : (t : Bool) → leb v max_number ≡ t → None ≡ unless_zero (cond t (length (written_number v)) 0) → max_number < v
      go true k q = let s = some_answer (length (written_number v)) (omega (arith, groups_count 2 v)) in absurd cc
      go false k q = leb-false _ _ k
