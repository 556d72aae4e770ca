-- Laws on refusal tables: what a call that is not refused has passed.
use Rattle.std.specs.Prelude.{◌≡◌, refl, Bool, true, false, cond, ℕ, zero, suc, ◌<◌, ◌≤◌, ltb, Ok, Err}
use Rattle.std.proofs.Common.{arith, ap, sym, ◌∙◌, ltb-false}
use Rattle.answers.specs.Numbers.{done, number_of, refusal_of}
use Rattle.answers.specs.Done.{first_number, over, unless_over, answered, outcome_of, outcome_from}
use Rattle.answers.specs.declared.Outcome.{Outcome}
use Rattle.answers.specs.declared.Refusal.{Refusal}
use Rattle.answers.specs.declared.Refusal.TheVariants.{
  WrongState,
  BadKeyLength,
  StringTooLong,
  ReservedName,
  InputTooLong,
  BadOutputLength,
  BadTagLength,
  TagMismatch,
  MalformedPlan,
  NoSuchChute,
}

-- a test whose number is not given does not hold
pub test_passed : (t : Bool) (k later : ℕ) → cond t (suc k) later ≡ 0 → (t ≡ false) × (later ≡ 0)
test_passed true k later e = absurd (omega arith)
test_passed false k later e = (refl, e)

-- no number is given where neither is
pub first_number-passed : (k later : ℕ) → first_number k later ≡ 0 → (k ≡ 0) × (later ≡ 0)
first_number-passed zero later e = (refl, e)
first_number-passed (suc k) later e = absurd (omega arith)

pub first_number-refused : (k later : ℕ) → (k ≡ 0 → ⊥) → first_number k later ≡ k
first_number-refused zero later h = absurd (h refl)
first_number-refused (suc k) later h = refl

-- bytes that are not refused keep the limit
pub over_passed : (n most k : ℕ) → over n most (suc k) ≡ 0 → n ≤ most
over_passed n most k e = ltb-false most n (test_passed (ltb most n) k 0 e).0

-- and bytes that are refused exceed it
pub over_refused : (n most k : ℕ) → (over n most k ≡ 0 → ⊥) → ltb most n ≡ true
over_refused n most k some = go (ltb most n) some
  where
    go : (t : Bool) → (cond t k 0 ≡ 0 → ⊥) → t ≡ true
    go true h = refl
    go false h = absurd (h refl)

-- Laws of answers by their numbers

pub refusal_of-number_of : (e : Refusal) → refusal_of (number_of e) ≡ e
refusal_of-number_of WrongState = refl
refusal_of-number_of BadKeyLength = refl
refusal_of-number_of StringTooLong = refl
refusal_of-number_of ReservedName = refl
refusal_of-number_of InputTooLong = refl
refusal_of-number_of BadOutputLength = refl
refusal_of-number_of BadTagLength = refl
refusal_of-number_of TagMismatch = refl
refusal_of-number_of MalformedPlan = refl
refusal_of-number_of NoSuchChute = refl

-- too many bytes are refused by the refusal's number
pub over_answered : {A : Type 0} (n most : ℕ) (a : A) (e : Refusal) → unless_over n most a e ≡ answered (over n most (number_of e)) a
over_answered n most a e = go (ltb most n)
  where
    numbered : (e : Refusal) → Err e ≡ answered (number_of e) a
    numbered WrongState = refl
    numbered BadKeyLength = refl
    numbered StringTooLong = refl
    numbered ReservedName = refl
    numbered InputTooLong = refl
    numbered BadOutputLength = refl
    numbered BadTagLength = refl
    numbered TagMismatch = refl
    numbered MalformedPlan = refl
    numbered NoSuchChute = refl

    go : (t : Bool) → cond t (Err e) (Ok a) ≡ answered (cond t (number_of e) done) a
    go true = numbered e
    go false = refl

-- an answer that nothing refuses has the number 0, and what it comes to
pub answered_ok : {A : Type 0} (k : ℕ) (a b : A) → answered k a ≡ Ok b → (k ≡ 0) × (a ≡ b)
answered_ok zero a b e = (refl, cc)
answered_ok (suc k) a b e = absurd cc

-- a refusal is that of the number, whatever the call would have come to
pub answered_err : {A B : Type 0} (k : ℕ) (a : A) (b : B) (e : Refusal) → answered k a ≡ Err e → answered k b ≡ Err e
answered_err zero a b e h = cc
answered_err (suc k) a b e h = cc

-- what is refused first, with what comes after it
module _ {A B : Type 0} (k later : ℕ) (a : A) (b : B) where
  pub first_refused : (e : Refusal) → answered k a ≡ Err e → answered (first_number k later) b ≡ Err e
  first_refused e h = go k h
    where
      go : (k : ℕ) → answered k a ≡ Err e → answered (first_number k later) b ≡ Err e
      go zero h = cc
      go (suc k) h = cc

  pub first_passed : (u : A) → answered k a ≡ Ok u → answered (first_number k later) b ≡ answered later b
  first_passed u h = go k h
    where
      go : (k : ℕ) → answered k a ≡ Ok u → answered (first_number k later) b ≡ answered later b
      go zero h = refl
      go (suc k) h = cc

-- the number of what stands for a number of the table
pub number_back : (k : ℕ) → 0 < k → k ≤ 10 → number_of (refusal_of k) ≡ k
number_back zero some most = absurd (omega arith)
number_back (suc zero) some most = refl
number_back (suc (suc zero)) some most = refl
number_back (suc (suc (suc zero))) some most = refl
number_back (suc (suc (suc (suc zero)))) some most = refl
number_back (suc (suc (suc (suc (suc zero))))) some most = refl
number_back (suc (suc (suc (suc (suc (suc zero)))))) some most = refl
number_back (suc (suc (suc (suc (suc (suc (suc zero))))))) some most = refl
number_back (suc (suc (suc (suc (suc (suc (suc (suc zero)))))))) some most = refl
number_back (suc (suc (suc (suc (suc (suc (suc (suc (suc zero))))))))) some most = refl
number_back (suc (suc (suc (suc (suc (suc (suc (suc (suc (suc zero)))))))))) some most = refl
number_back (suc (suc (suc (suc (suc (suc (suc (suc (suc (suc (suc k))))))))))) some most = absurd (omega arith)

-- a refusal's number is that of the table
pub refused_number : {A : Type 0} (k : ℕ) (a : A) (e : Refusal) → k ≤ 10 → answered k a ≡ Err e → (number_of e ≡ k) × (0 < k)
refused_number zero a e most h = absurd cc
refused_number (suc k) a e most h =
    let some : 0 < suc k = omega arith in
    let is : refusal_of (suc k) ≡ e = cc in
    (ap number_of (sym is) ∙ number_back (suc k) some most, some)

-- a counted call by its number, as C is answered
pub outcome_answered : (k r : ℕ) → k ≤ 10 → outcome_from (answered k r) ≡ outcome_of k r
outcome_answered zero r most = refl
outcome_answered (suc k) r most =
    let some : 0 < suc k = omega arith in
    let refused : ℕ → Outcome = λ n. record { number = n; runs = 0 } in
    ap refused (number_back (suc k) some most)
