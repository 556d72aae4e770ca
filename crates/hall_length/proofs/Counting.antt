-- Laws of entries counted one after another, and which case of the definition of the length holds.
use Rattle.std.proofs.Common.{◌≡◌, ◌∙◌, List, true, false, ℕ, ◌+◌, ◌≤◌, ◌<◌, arith, length, get_or, drop, Option, Some}
use borrow.Author.Tests.{lt-ltb, le-ltb}
use Rattle.leb128.specs.Number.{max_number}
use Rattle.leb128_write.specs.Written.{written_number}
use Rattle.leb128_write.specs.Answers.{number_length, unless_zero}
use Rattle.leb128_write.proofs.Laws.{groups_count, length_is_lem, some_answer}
use Rattle.plan_read.specs.Limits.{max_plan}
use Rattle.plan_length.specs.Length.{length_is, no_length}
use Rattle.hall_check.specs.Lists.{pairs, lists_allowed}
use Rattle.hall_check.specs.Laws.Taken.{EntriesFit}
use Rattle.hall_length.specs.Written.{written_entries}
use Rattle.hall_length.specs.Length.{too_long, length_within, hall_length_of}
use Rattle.hall_length.specs.Laws.{halls_length, next_fit, next_length}

-- of n bytes counted so far, and the entries from an index on: all together they are the plan
pub record Counting (kinds values : List ℕ) (first n i : ℕ) : Type 0 where
  pub short : n ≤ max_plan
  pub left : EntriesFit (drop i (pairs kinds values))
  pub sum : n + length (written_entries (drop i (pairs kinds values))) ≡ first + length (written_entries (pairs kinds values))

-- k and v bytes, for the kind and the value of the next entry
pub record Next (kinds values : List ℕ) (i k v : ℕ) : Type 0 where
  pub few : k + v ≤ 6
  pub bytes : length (written_entries (drop i (pairs kinds values))) ≡ k + v + length (written_entries (drop (i + 1) (pairs kinds values)))
  pub left : EntriesFit (drop (i + 1) (pairs kinds values))

-- the length of a number that three groups hold
pub measured : (v : ℕ) → v ≤ max_number → unless_zero (number_length v) ≡ Some (length (written_number v))
measured v h = rw (length_is_lem v h) (some_answer (length (written_number v)) (omega (arith, groups_count 2 v)))

module _ (kinds values : List ℕ) (i : ℕ) (equal : length kinds ≡ length values) (h : i < length kinds) (fit : EntriesFit (drop i (pairs kinds values))) where
  -- the kind is made wide before its length is asked
  pub kind_some : (w : ℕ) (r : Option ℕ) → w ≡ get_or kinds i 0 → r ≡ unless_zero (number_length w) → r ≡ Some (length (written_number (get_or kinds i 0)))
  kind_some w r e q = q ∙ rw e (measured (get_or kinds i 0) (next_fit kinds values i equal h fit).0)

  pub value_some : (r : Option ℕ) → r ≡ unless_zero (number_length (get_or values i 0)) → r ≡ Some (length (written_number (get_or values i 0)))
  value_some r q = q ∙ measured (get_or values i 0) (next_fit kinds values i equal h fit).1.0

  next : (k v : ℕ) → k ≡ length (written_number (get_or kinds i 0)) → v ≡ length (written_number (get_or values i 0)) → Next kinds values i k v
  next k v ek ev =
      record {
        few = omega (arith, groups_count 2 (get_or kinds i 0), groups_count 2 (get_or values i 0));
        bytes = omega (arith, next_length kinds values i equal h);
        left = (next_fit kinds values i equal h fit).1.1;
      }

  -- a turn's entry, by the lengths asked
  pub counted : (w k v : ℕ) (r t : Option ℕ) → w ≡ get_or kinds i 0 → r ≡ unless_zero (number_length w) → r ≡ Some k
      → t ≡ unless_zero (number_length (get_or values i 0)) → t ≡ Some v → Next kinds values i k v
  counted w k v r t e q rk p tv =
      let sk = kind_some w r e q in
      let sv = value_some t p in
      next k v (cc) (cc)

pub too_long_lem : (n : ℕ) → max_plan < n → too_long ≡ length_within n
too_long_lem n h = rw (lt-ltb _ _ h)

pub within_limit : (n : ℕ) → n ≤ max_plan → length_is n ≡ length_within n
within_limit n h = rw (le-ltb _ _ h)

module _ (outer : ℕ) (kinds values : List ℕ) where
  pub length_allowed : lists_allowed outer kinds values ≡ true
      → length_within (length (written_number outer) + length (written_entries (pairs kinds values))) ≡ hall_length_of outer kinds values
  unfolding hall_length_of
  length_allowed ok = rw (ok, halls_length outer (pairs kinds values))

  pub length_refused : lists_allowed outer kinds values ≡ false → no_length ≡ hall_length_of outer kinds values
  unfolding hall_length_of
  length_refused ok = rw ok
