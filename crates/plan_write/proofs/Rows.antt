-- Laws of rows written one after another: the stores of the rows to come, and which case of the definitions holds.
use mathlib.Core.Path.{◌≡◌, refl, sym, ap, ◌∙◌}
use mathlib.Core.List.{List}
use Rattle.std.specs.Prelude.{Err}
use mathlib.Core.Bool.{Bool, true, false, cond}
use Prim.Native.Nat.{ℕ, ◌+◌, ◌≤◌, ◌<◌}
use native.Mathlib.Omega.{arith}
use lib.ListN.{length, get_or, drop, drop_of_length-le}
use lib.Seq.{sets}
use lib.Dec.{leb}
use borrow.Author.Tests.{leb-true, eq-eqb, ne_eqb}
use Rattle.answers.specs.Numbers.{done, malformed_plan}
use Rattle.answers.specs.Places.{plan_refusal_number}
use Rattle.answers.specs.declared.PlanRefusal.{PlanRefusal}
use Rattle.stores.specs.Laws.{sets_append, sets_all}
use Rattle.leb128_write.specs.Written.{written_number}
use Rattle.plan_read.specs.Limits.{max_rows, max_destination}
use Rattle.plan_length.specs.Length.{written_rows, written_plan, rows_allowed, allowed, length_is, no_length, length_of, write_answer, length_from, written_from}
use Rattle.plan_length.specs.Laws.{and_left, and_right}
use Rattle.plan_length.specs.declared.PlanLength.{PlanLength}
use Rattle.plan_length.proofs.Rows.{here, rows_length, rows_allowed_lem}
use Rattle.plan_write.specs.Write.{fills, write_refusal, written_of, WritesPlan}

module _ (i : ℕ) (l : List ℕ) (h : i < length l) where
  -- rows stored one after another
  pub row_room : (at n : ℕ) → at + length (written_rows (drop i l)) ≤ n
      → at + length (written_number (get_or l i 0)) + length (written_rows (drop (i + 1) l)) ≤ n
  row_room at n r = omega (arith, rows_length i l h)

  pub rows_sets : (out : List ℕ) (at : ℕ)
      → sets out at (written_rows (drop i l)) ≡ sets (sets out at (written_number (get_or l i 0))) (at + length (written_number (get_or l i 0)))
      (written_rows (drop (i + 1) l))
  unfolding written_rows
  rows_sets out at = rw (here i l h) (sets_append out at (written_number (get_or l i 0)) (written_rows (drop (i + 1) l)))

  module _ (ok : rows_allowed (drop i l) ≡ true) where
    pub first_allowed : get_or l i 0 ≤ max_destination
    first_allowed = leb-true _ _ (and_left (leb (get_or l i 0) max_destination) (rows_allowed (drop (i + 1) l)) (sym (rows_allowed_lem i l h) ∙ ok))

    pub others_allowed : rows_allowed (drop (i + 1) l) ≡ true
    others_allowed = and_right (leb (get_or l i 0) max_destination) (rows_allowed (drop (i + 1) l)) (sym (rows_allowed_lem i l h) ∙ ok)

pub rows_end : (i : ℕ) (l out : List ℕ) (at : ℕ) → length l ≤ i → sets out at (written_rows (drop i l)) ≡ out
unfolding written_rows
rows_end i l out at h = rw (drop_of_length-le l h)

-- a refusal has a number
pub refusal_some : (r : PlanRefusal) → plan_refusal_number r ≡ done → ⊥
refusal_some PlanRefusal.TooLong e = omega arith
refusal_some (PlanRefusal.Malformed m) e = omega arith
refusal_some PlanRefusal.NoSuchChute e = omega arith

-- what a length says
module _ (l : List ℕ) (n : ℕ) (e : length_is n ≡ length_of l) where
  pub known_allowed : allowed l ≡ true
  unfolding length_of
  known_allowed = go (allowed l) e
    where
      go : (b : Bool) → length_is n ≡ cond {A = PlanLength} b (length_is (length (written_plan l))) no_length → b ≡ true
      go true q = refl
      go false q = absurd (omega (arith, ap (λ (p : PlanLength). p.number) q))

  pub known_length : n ≡ length (written_plan l)
  unfolding length_of
  known_length = ap (λ (p : PlanLength). p.length) e ∙ rw known_allowed

  pub known_rows : (length l ≤ max_rows) × (rows_allowed l ≡ true)
  unfolding allowed
  known_rows = (
    leb-true _ _ (and_left (leb (length l) max_rows) (rows_allowed l) known_allowed),
    and_right (leb (length l) max_rows)
        (rows_allowed l) known_allowed,
  )

  -- refused where the buffer has another length
  pub other_length : (out : List ℕ) → (n ≡ length out → ⊥) → WritesPlan l out out (write_answer malformed_plan)
  unfolding write_refusal written_of fills
  other_length out m =
      let d : length (written_plan l) ≡ length out → ⊥ = λ q. m (known_length ∙ q) in
      record { answer = rw (known_allowed, ne_eqb _ _ d); buffer = rw (known_allowed, ne_eqb _ _ d) }

  -- else both runs of stores together are the plan
  pub all_written : (out a b : List ℕ) → n ≡ length out → a ≡ sets out 0 (written_number (length l))
      → b ≡ sets a (length (written_number (length l))) (written_rows l)
      → WritesPlan l out b (write_answer done)
  unfolding write_refusal written_of fills written_plan
  all_written out a b m ea eb =
      let f : length (written_plan l) ≡ length out = sym known_length ∙ m in
      let k : 0 + length (written_number (length l)) ≡ length (written_number (length l)) = omega arith in
      let whole : sets out 0 (written_plan l) ≡ b = sets_append out 0 (written_number (length l)) (written_rows l) ∙ rw (k, ← ea, ← eb) in
      record { answer = rw (known_allowed, eq-eqb _ _ f); buffer = rw (known_allowed, eq-eqb _ _ f) (sym whole ∙ sets_all out (written_plan l) f) }

-- a length is refused as writing is
pub not_allowed : (l out : List ℕ) (r : PlanRefusal) → length_from (Err r) ≡ length_of l → WritesPlan l out out (written_from (Err r))
unfolding write_refusal written_of fills length_of
not_allowed l out r e = go (allowed l) refl e
  where
    go : (b : Bool) → allowed l ≡ b → length_from (Err r) ≡ cond {A = PlanLength} b (length_is (length (written_plan l))) no_length
        → WritesPlan l out out (written_from (Err r))
    go true h q = absurd (refusal_some r (ap (λ (p : PlanLength). p.number) q))
    go false h q = record { answer = ap (λ (p : PlanLength). record { number = p.number; place = p.place }) q ∙ rw h; buffer = rw h }
