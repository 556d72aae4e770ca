-- For code that asks one thing after another, each with `?`.
use Rattle.std.specs.Prelude.{◌≡◌, refl, Bool, true, false, cond, ℕ, suc, ltb, Ok, Err}
use Rattle.answers.specs.Numbers.{refusal_of}
use Rattle.answers.specs.Done.{first_number, over, unless_over, answered}
use Rattle.answers.specs.declared.Refusal.{Refusal}
use Rattle.answers.specs.Laws.{first_refused, first_passed}

-- too many bytes, which are asked of first or last: k + 1 is the number of their refusal
module _ {A B : Type 0} (n most k : ℕ) (a : A) where
  pub over_refused_first : (later : ℕ) (b : B) (e : Refusal) → unless_over n most a (refusal_of (suc k)) ≡ Err e
      → answered (first_number (over n most (suc k)) later) b ≡ Err e
  over_refused_first later b e = go (ltb most n)
    where
      go : (t : Bool) → cond t (Err (refusal_of (suc k))) (Ok a) ≡ Err e → answered (first_number (cond t (suc k) 0) later) b ≡ Err e
      go true h = cc
      go false h = cc

  pub over_passed_first : (later : ℕ) (b : B) (u : A) → unless_over n most a (refusal_of (suc k)) ≡ Ok u
      → answered (first_number (over n most (suc k)) later) b ≡ answered later b
  over_passed_first later b u = go (ltb most n)
    where
      go : (t : Bool) → cond t (Err (refusal_of (suc k))) (Ok a) ≡ Ok u → answered (first_number (cond t (suc k) 0) later) b ≡ answered later b
      go true h = cc
      go false h = refl

pub over_last : {A : Type 0} (n most k : ℕ) (a : A) → unless_over n most a (refusal_of (suc k)) ≡ answered (over n most (suc k)) a
over_last n most k a = go (ltb most n)
  where
    go : (t : Bool) → cond t (Err (refusal_of (suc k))) (Ok a) ≡ answered (cond t (suc k) 0) a
    go true = refl
    go false = refl

pub ruleset asked_in_turn = (first_refused, first_passed, over_refused_first, over_passed_first, over_last)
