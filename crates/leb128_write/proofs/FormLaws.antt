-- Laws of the one form of a number: bytes that read as it are its groups as they are written, since what the groups after a first one make is never 0.
use Rattle.std.specs.Prelude.{◌≡◌, refl, Bool, true, false, cond, ◌||◌, ℕ, zero, suc, ◌+◌, ◌*◌, ◌/◌, ◌%◌, ◌≤◌, ◌<◌, length, ltb}
use Rattle.std.proofs.Common.{ap}
use mathlib.Core.List.{List, [], ◌∷◌, ◌++◌}
use native.Mathlib.Omega.{arith}
use borrow.Author.Tests.{lt-ltb, le-ltb, ltb-true, ltb-false}
use Rattle.encode.specs.Laws.Bytes.{Bytes}
use Rattle.leb128.specs.Number.{Parsed, value, bad, last_group, next_group, groups, number, max_number}
use Rattle.leb128.specs.Laws.Reading.{limit_three, groups_used}
use Rattle.leb128_write.specs.Written.{written_groups, written_number}
use Rattle.leb128_write.specs.Answers.{number_length}
use Rattle.leb128_write.proofs.Laws.{groups_last, length_is_lem}

-- of a number v of at most `more` + 1 groups that was read at the place `at`, up to the place n: it is 0 only where it begins there, and the bytes are those
-- of v written, and then the rest
pub record FormOf (is_first : Bool) (more at : ℕ) (s : List ℕ) (v n : ℕ) (rest : List ℕ) : Type 0 where
  pub needed : (is_first || ltb 0 v) ≡ true
  pub past : n ≡ at + length (written_groups more v)
  pub bytes : s ≡ written_groups more v ++ rest
  pub others : Bytes rest

abbrev pub Form : Bool → ℕ → ℕ → List ℕ → Parsed → Type 0
Form is_first more at s (value v n rest) = FormOf is_first more at s v n rest
Form is_first more at s (bad place) = Unit

or_right : (a b : Bool) → b ≡ true → (a || b) ≡ true
or_right true b e = refl
or_right false b e = e

module _ (is_first : Bool) (at b : ℕ) (s : List ℕ) where
  last_form : (more : ℕ) → ltb b 128 ≡ true → Bytes s → Form is_first more at (b ∷ s) (last_group is_first b at s)
  last_form more l h = go (is_first || ltb 0 b) refl
    where
      go : (t : Bool) → (is_first || ltb 0 b) ≡ t → Form is_first more at (b ∷ s) (cond t (value b (at + 1) s) (bad at))
      go true e =
          let one = groups_last more b (ltb-true _ _ l) in
          record { needed = e; past = omega (arith, ap length one); bytes = rw one; others = h }
      go false e = tt

  next_form : (more : ℕ) (p : Parsed) → b < 256 → 128 ≤ b → Form false more (at + 1) s p → Form is_first (suc more) at (b ∷ s) (next_group (b % 128) p)
  unfolding written_groups
  next_form more (value v n rest) small large u =
      let some : 0 < v = ltb-true _ _ u.needed in
      let over : 128 ≤ b % 128 + 128 * v = omega arith in
      let low : 128 + (b % 128 + 128 * v) % 128 ≡ b = omega arith in
      let high : (b % 128 + 128 * v) / 128 ≡ v = omega arith in
      record {
        needed = or_right is_first _ (lt-ltb 0 (b % 128 + 128 * v) (omega arith));
        past = rw (le-ltb _ _ over, high) (omega (arith, u.past));
        bytes = rw (le-ltb _ _ over, low, high) (ap (λ (t : List ℕ). b ∷ t) u.bytes);
        others = u.others;
      }
  next_form more (bad place) small large u = tt

pub groups_form : (is_first : Bool) (more at : ℕ) (s : List ℕ) → Bytes s → Form is_first more at s (groups is_first more at s)
unfolding groups
groups_form is_first more at [] h = tt
groups_form is_first zero at (b ∷ s) h = go (ltb b 128) refl
  where
    go : (t : Bool) → ltb b 128 ≡ t → Form is_first zero at (b ∷ s) (cond t (last_group is_first b at s) (bad at))
    go true l = last_form is_first at b s zero l h.1
    go false l = tt
groups_form is_first (suc more) at (b ∷ s) h = go (ltb b 128) refl (groups_form false more (at + 1) s h.1)
  where
    later : Parsed
    later = groups false more (at + 1) s

    go : (t : Bool) → ltb b 128 ≡ t → Form false more (at + 1) s later
        → Form is_first (suc more) at (b ∷ s) (cond t (last_group is_first b at s) (next_group (b % 128) later))
    go true l u = last_form is_first at b s (suc more) l h.1
    go false l u = next_form is_first at b s more later h.0 (ltb-false _ _ l) u

-- a number of three groups at most
pub number_form : (at v next : ℕ) (s rest : List ℕ) → Bytes s → number at s ≡ value v next rest
    → (s ≡ written_number v ++ rest) × (next ≡ at + number_length v)
number_form at v next s rest h e =
    let small : v ≤ max_number = omega (arith, limit_three, (rw e at (groups_used true 2 at s)).below) in
    let u : Form true 2 at s (value v next rest) = rw e at (groups_form true 2 at s h) in
    (u.bytes, omega (arith, length_is_lem v small, u.past))
