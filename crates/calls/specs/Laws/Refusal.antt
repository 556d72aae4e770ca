-- Laws on refusals: what an accepted call has passed, and how code comes to a number of the table.
use Rattle.std.specs.Prelude.{◌≡◌, Bool, true, false, ◌&&◌, List, [], ◌∷◌, eqb, length}
use Rattle.std.proofs.Math.Path.{refl}
use Rattle.std.proofs.Common.{sym}
use Prim.Native.Nat.{ℕ, zero, suc, ◌≤◌, ◌<◌}
use borrow.Author.Tests.{eqb-true, eq-eqb, lt-ltb, le-ltb}
use Rattle.answers.specs.Done.{if_done}
use Rattle.answers.specs.Laws.{first_number-passed, first_number-refused, over_passed}
use Rattle.calls.specs.Limits.{max_message, max_output}
use Rattle.calls.specs.Start.{Start, named, keyed, same_bytes, start_refusal}
use Rattle.calls.specs.Call.{Function, Call, start_of, message_of, output_bytes, message_refusal, output_refusal, refusal, Accepted, extendable_call}
use Rattle.calls.specs.Count.{runs, reported_runs}

-- A call's number, by what refuses it first, and its count

module _ {f : Function} (c : Call f) where
  pub refusal_start : (start_refusal (start_of c) ≡ 0 → ⊥) → refusal c ≡ start_refusal (start_of c)
  unfolding refusal
  refusal_start h = first_number-refused (start_refusal (start_of c)) _ h

  pub refusal_message : start_refusal (start_of c) ≡ 0 → max_message < length (message_of c) → refusal c ≡ 5
  unfolding refusal
  refusal_message s h = rw (s, lt-ltb max_message (length (message_of c)) h)

  pub refusal_output : start_refusal (start_of c) ≡ 0 → length (message_of c) ≤ max_message → refusal c ≡ output_refusal f (output_bytes c)
  unfolding refusal
  refusal_output s h = rw (s, le-ltb max_message (length (message_of c)) h)

  pub count_refused : (refusal c ≡ 0 → ⊥) → reported_runs c ≡ 0
  unfolding reported_runs
  count_refused h = go (refusal c) h
    where
      go : (k : ℕ) → (k ≡ 0 → ⊥) → if_done k (runs c) 0 ≡ 0
      go zero h = absurd (h refl)
      go (suc k) h = refl

  pub count_accepted : Accepted c → reported_runs c ≡ runs c
  unfolding reported_runs
  count_accepted h = rw h

  -- What an accepted call has passed

  pub start_accepted : Accepted c → start_refusal (start_of c) ≡ 0
  unfolding refusal
  start_accepted h = (first_number-passed (start_refusal (start_of c)) _ h).0

  pub message_accepted : Accepted c → length (message_of c) ≤ max_message
  unfolding refusal
  message_accepted h =
      let passed = first_number-passed (message_refusal (length (message_of c))) _ (first_number-passed (start_refusal (start_of c)) _ h).1 in
      over_passed (length (message_of c)) max_message 4 passed.0

  pub output_accepted : Accepted c → output_refusal f (output_bytes c) ≡ 0
  unfolding refusal
  output_accepted h =
      (first_number-passed (message_refusal (length (message_of c))) _ (first_number-passed (start_refusal (start_of c)) _ h).1).1

-- an extendable function is done within the limits
pub extendable_accepted : (s : Start) (X : List ℕ) (n : ℕ) → start_refusal s ≡ 0 → length X ≤ max_message → n ≤ max_output → Accepted (extendable_call s X n)
unfolding refusal
extendable_accepted (named N S) X n ok m o = rw (ok, le-ltb max_message (length X) m, le-ltb max_output n o)
extendable_accepted (keyed K S) X n ok m o = rw (ok, le-ltb max_message (length X) m, le-ltb max_output n o)

-- The comparison of names

and_true : (s t : Bool) → (s && t) ≡ true → (s ≡ true) × (t ≡ true)
and_true true t e = (refl, e)
and_true false t e = (e, cc)

pub same_bytes-equal : (a b : List ℕ) → same_bytes a b ≡ true → a ≡ b
same_bytes-equal [] [] e = refl
same_bytes-equal [] (y ∷ ys) e = cc
same_bytes-equal (x ∷ xs) [] e = cc
same_bytes-equal (x ∷ xs) (y ∷ ys) e =
    let r = and_true (eqb x y) (same_bytes xs ys) e in
    λ i. eqb-true x y r.0 i ∷ same_bytes-equal xs ys r.1 i

pub same_bytes-self : (a : List ℕ) → same_bytes a a ≡ true
same_bytes-self [] = refl
same_bytes-self (x ∷ xs) = rw (eq-eqb x x refl) (same_bytes-self xs)

-- a test that holds exactly where the lists are equal, as `check::same` does, is this one
pub same_bytes-is : (r : Bool) (a b : List ℕ) → (r ≡ true → a ≡ b) × (a ≡ b → r ≡ true) → r ≡ same_bytes a b
same_bytes-is true a b h = let e : a ≡ b = h.0 refl in rw e (sym (same_bytes-self b))
same_bytes-is false a b h = go (same_bytes a b) refl
  where
    go : (t : Bool) → same_bytes a b ≡ t → false ≡ t
    go true e = h.1 (same_bytes-equal a b e)
    go false e = refl
