-- A session that could not start: its phase is giving, and its limit is 0.
use mathlib.Core.Path.{◌≡◌, refl}
use mathlib.Core.Bool.{Bool, true, false, cond}
use mathlib.Core.List.{List, [], ◌∷◌}
use lib.Dec.{ltb}
use Prim.Native.Nat.{ℕ, zero, suc, ◌+◌, ◌<◌, ◌≤◌}
use native.Mathlib.Omega.{arith}
use borrow.Author.Tests.{lt-ltb}
use lib.ListN.{length}
use Rattle.answers.specs.Laws.{number_back}
use Rattle.answers.specs.Done.{first_number, over}
use Rattle.calls.specs.Limits.{max_key, max_name, max_customisation}
use Rattle.calls.specs.Start.{Start, named, keyed, is_reserved, start_refusal}
use Rattle.sponge.specs.Running.{squeezed, after}
use Rattle.start.specs.Started.{started}
use Rattle.session_state.specs.Session.{session_answer, unstarted, started_session, begun, taking_in, giving_sponge, giving, filled}
use Rattle.session.specs.Unstarted.{Unstarted, CouldNotStart}

begun_refused : (s : Start) (k : ℕ) → start_refusal s ≡ suc k → begun s ≡ session_answer (suc k) unstarted
unfolding begun started_session started
begun_refused s k h = rw h

-- a start is refused with a number of the table
over_most : (n most k : ℕ) → k ≤ 10 → over n most k ≤ 10
over_most n most k h = go (ltb most n)
  where
    go : (t : Bool) → cond t k 0 ≤ 10
    go true = h
    go false = omega arith

first_most : (k later : ℕ) → k ≤ 10 → later ≤ 10 → first_number k later ≤ 10
first_most zero later h i = i
first_most (suc k) later h i = h

start_most : (s : Start) → start_refusal s ≤ 10
unfolding start_refusal
start_most (named N S) =
    first_most _ _ (over_most (length N) max_name 3 (omega arith))
    (first_most _ _ (over_most (length S) max_customisation 3 (omega arith)) (reserved (is_reserved N)))
  where
    reserved : (t : Bool) → cond t 4 0 ≤ 10
    reserved true = omega arith
    reserved false = omega arith
start_most (keyed K S) = first_most _ _ (over_most (length K) max_key 2 (omega arith)) (over_most (length S) max_customisation 3 (omega arith))

give_none_lem : giving unstarted 0 ≡ session_answer 0 unstarted
unfolding giving giving_sponge after
give_none_lem = refl

give_refused : (n : ℕ) → 0 < n → giving unstarted n ≡ session_answer 6 unstarted
unfolding giving
give_refused n h = rw (lt-ltb 0 (0 + n) (omega arith))

unwritten : (out : List ℕ) → filled unstarted out ≡ out
unfolding filled squeezed
unwritten [] = refl
unwritten (b ∷ out) = rw (lt-ltb 0 (0 + length (b ∷ out)) (omega arith))

by_number : (s : Start) (k : ℕ) → start_refusal s ≡ suc k → Unstarted s
unfolding taking_in
by_number s k h =
    let e : begun s ≡ session_answer (suc k) unstarted = begun_refused s k h in
    record {
      number = rw (e, h) (number_back (suc k) (omega arith) (omega (arith, h, start_most s)));
      take = λ m. rw e;
      give_none = rw e give_none_lem;
      give = λ n some. rw e (give_refused n some);
      unwritten = λ out. rw e (unwritten out);
    }

pub could_not_start : CouldNotStart
could_not_start s some = go (start_refusal s) refl
  where
    go : (k : ℕ) → start_refusal s ≡ k → Unstarted s
    go zero e = absurd (some e)
    go (suc k) e = by_number s k e
