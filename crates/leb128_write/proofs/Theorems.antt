-- The theorems on one number. What was written stands between the bytes before and after it, as a law of stores says, and reads as the number. That a number
-- has one form is a law of its groups.
use mathlib.Core.Path.{◌≡◌, refl, sym, ap, ◌∙◌}
use mathlib.Core.Logic.{◌⊎◌, inl, inr}
use mathlib.Core.List.{List, ◌++◌, append_assoc}
use mathlib.Core.Bool.{Bool, true, false, cond, ◌&&◌}
use Prim.Native.Nat.{ℕ, ◌+◌, ◌≤◌, ◌<◌}
use native.Mathlib.Omega.{arith}
use lib.ListN.{length, take, drop, length-append}
use lib.Seq.{sets, sets-eq, length-take-le, take_at, drop_at}
use lib.Dec.{leb}
use borrow.Author.Tests.{lt-leb, leb-true, leb-false}
use Rattle.leb128.specs.Number.{max_number}
use Rattle.leb128_write.specs.Written.{written_number}
use Rattle.leb128_write.specs.Answers.{number_length, number_fits, written_past, number_written}
use Rattle.leb128_write.proofs.Laws.{groups_count, number_read, past_written, is_written, length_is_lem}
use Rattle.leb128_write.proofs.FormLaws.{number_form}
use Rattle.leb128_write.specs.Theorems.{NumberIn, Theorems}
use Rattle.leb128_write.proofs.Writing.{length_large}

-- the two tests of writing, by the place that it answers
module _ (at v n : ℕ) where
  fitting : (written_past at v n ≡ 0 → ⊥) → (v ≤ max_number) × (at + length (written_number v) ≤ n)
  unfolding written_past number_fits
  fitting h = go (leb v max_number) (leb (at + length (written_number v)) n) refl refl h
    where
      go : (a b : Bool) → leb v max_number ≡ a → leb (at + length (written_number v)) n ≡ b → (cond (a && b) (at + length (written_number v)) 0 ≡ 0 → ⊥)
          → (v ≤ max_number) × (at + length (written_number v) ≤ n)
      go true true p q z = (leb-true _ _ p, leb-true _ _ q)
      go true false p q z = absurd (z refl)
      go false b p q z = absurd (z refl)

  not_fitting : written_past at v n ≡ 0 → (max_number < v) ⊎ (n < at + number_length v)
  unfolding written_past number_fits
  not_fitting e = go (leb v max_number) (leb (at + length (written_number v)) n) refl refl e
    where
      go : (a b : Bool) → leb v max_number ≡ a → leb (at + length (written_number v)) n ≡ b → cond (a && b) (at + length (written_number v)) 0 ≡ 0
          → (max_number < v) ⊎ (n < at + number_length v)
      go true true p q z = absurd (omega (arith, groups_count 2 v))
      go true false p q z =
          let over : n < at + length (written_number v) = leb-false _ _ q in
          inr (omega (arith, over, length_is_lem v (leb-true _ _ p)))
      go false b p q z = inl (leb-false _ _ p)

  no_place : (max_number < v) ⊎ (n < at + number_length v) → written_past at v n ≡ 0
  unfolding written_past number_fits
  no_place (inl h) = rw (lt-leb _ _ h)
  no_place (inr h) = go (leb v max_number) refl
    where
      go : (a : Bool) → leb v max_number ≡ a → cond (a && leb (at + length (written_number v)) n) (at + length (written_number v)) 0 ≡ 0
      go true p = let l : n < at + length (written_number v) = omega (arith, length_is_lem v (leb-true _ _ p)) in rw (lt-leb _ _ l)
      go false p = refl

nothing_written : (at v : ℕ) (out : List ℕ) → written_past at v (length out) ≡ 0 → number_written at v out ≡ out
unfolding written_past number_written
nothing_written at v out e = go (number_fits at v (length out)) e
  where
    go : (t : Bool) → cond t (at + length (written_number v)) 0 ≡ 0 → cond t (sets out at (written_number v)) out ≡ out
    go true z = absurd (omega (arith, groups_count 2 v))
    go false z = refl

-- a number that was written, between the bytes before and after it
module _ (at v : ℕ) (out : List ℕ) (h : v ≤ max_number) (room : at + length (written_number v) ≤ length out) where
  abbrev after : List ℕ
  after = drop (at + length (written_number v)) out

  between : number_written at v out ≡ take at out ++ written_number v ++ after
  between = is_written at v h out room ∙ sets-eq (written_number v) out at room

  front : length (take at out) ≡ at
  front = length-take-le at out (omega arith)

  number_in : NumberIn at v out
  number_in =
      let past = past_written at v h out room in
      let joined = append_assoc (take at out) (written_number v) after in
      let both : length (take at out ++ written_number v) ≡ at + length (written_number v) =
      omega (arith, front, length-append (take at out) (written_number v)) in
      record {
        place = past ∙ ap (λ (n : ℕ). at + n) (sym (length_is_lem v h));
        reads = rw (past, between, joined, drop_at (take at out) (written_number v ++ after) at front) (number_read at v h after);
        before = rw (between, joined, take_at (take at out) (written_number v ++ after) at front);
        after = rw (past, between, drop_at (take at out ++ written_number v) after (at + length (written_number v)) both);
      }

pub theorems : Theorems
theorems =
    record {
      round_trip = λ at v out z. let k = fitting at v (length out) z in number_in at v out k.0 k.1;
      refused = λ at v n. (not_fitting at v n, no_place at v n);
      nothing_written = nothing_written;
      one_form = number_form;
      one_to_three = λ v h. rw (length_is_lem v h) (groups_count 2 v);
      none_above = λ v h. sym (length_large v h);
    }
