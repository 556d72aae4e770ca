-- What a call hands back beside its number: the new value where the number is 0, and the old one on a refusal, so that a refusal changes nothing.
use Rattle.std.specs.Prelude.{ℕ, zero, suc, cond, ltb, Result, Ok, Err}
use Rattle.answers.specs.Numbers.{done, number_of, refusal_of}
use Rattle.answers.specs.declared.Refusal.{Refusal}
use Rattle.answers.specs.declared.Outcome.{Outcome}

abbrev pub if_done : {A : Type 0} → ℕ → (new old : A) → A
if_done zero new old = new
if_done (suc k) new old = old

-- the first of two numbers, unless it is 0; a refusal table is a chain of these, in its order
abbrev pub first_number : ℕ → ℕ → ℕ
first_number zero later = later
first_number (suc k) later = suc k

-- the number k and the runs of the call, which count only where it is 0
abbrev pub outcome_of : ℕ → ℕ → Outcome
outcome_of k runs = record { number = k; runs = if_done k runs 0 }

-- the number k where n bytes are more than the most that are allowed
abbrev pub over : (n most k : ℕ) → ℕ
over n most k = cond (ltb most n) k done

-- the same as an answer, whatever a refusal is: e where n bytes are more than the most that are allowed, and else what the call comes to
abbrev pub unless_over : {A E : Type 0} → (n most : ℕ) → A → E → Result A E
unless_over n most a e = cond (ltb most n) (Err e) (Ok a)

-- the answer of a call by its number k: what it comes to where nothing is refused
abbrev pub answered : {A : Type 0} → ℕ → A → Result A Refusal
answered zero a = Ok a
answered (suc k) a = Err (refusal_of (suc k))

-- an answer's number
abbrev pub answer_number : {A : Type 0} → Result A Refusal → ℕ
answer_number (Ok a) = done
answer_number (Err e) = number_of e

-- a counted call as C is answered: its number, and the permutations where it is 0
abbrev pub outcome_from : Result ℕ Refusal → Outcome
outcome_from (Ok runs) = record { number = done; runs = runs }
outcome_from (Err e) = record { number = number_of e; runs = 0 }
