-- The code's answers by its tests: the entry at a place of two lists, and whether all entries were read.
use Rattle.std.proofs.Common.{◌≡◌, refl, ap, List, [], ◌∷◌, Bool, true, false, cond, ◌&&◌, leb, ℕ, ◌+◌, ◌≤◌, ◌<◌, length, get_or, drop, eqb, Some, None, Result, Ok, Err}
use Rattle.std.proofs.Common.{arith, length-drop, drop_of_length-le}
use borrow.Author.Tests.{le-leb, lt-leb, eq-eqb, ne_eqb}
use Rattle.answers.specs.declared.Malformed.{Malformed}
use Rattle.leb128.specs.Number.{max_number}
use Rattle.hall_entry.specs.Limits.{levels_below}
use Rattle.hall_entry.specs.Entries.{Entry, kind_allowed, first, wrong, Read, reached, breach, entries_of}
use Rattle.hall_entry.specs.Answers.{kind_of, allowed_kind, head_answer}
use Rattle.hall_entry.specs.declared.Kind.{Kind}
use Rattle.hall_read.specs.Passing.{start_at, passed_over}
use Rattle.hall_read.specs.declared.Progress.{Progress}
use Rattle.hall_read.specs.Laws.Reading.{After, after_hall}
use Rattle.hall_check.specs.Lists.{pairs, list_head, all_read, halls_allowed, lists_allowed}
use Rattle.hall_check.specs.Laws.Pairs.{length_pairs, drop_pairs}
use Rattle.hall_check.specs.Laws.Heads.{list_heads}

module _ (kinds values : List ℕ) (levels chutes at : ℕ) (equal : length kinds ≡ length values) where
  pub head_end : length kinds ≤ at → Err (record { place = at }) ≡ head_answer (list_head levels chutes at (drop at (pairs kinds values)))
  unfolding list_head
  head_end h =
      let k : length (pairs kinds values) ≤ at = omega (arith, length_pairs kinds values equal) in
      rw (drop_of_length-le (pairs kinds values) k)

  module _ (h : at < length kinds) where
    pub head_none : None ≡ allowed_kind levels chutes (get_or kinds at 0)
        → Err (record { place = at }) ≡ head_answer (list_head levels chutes at (drop at (pairs kinds values)))
    unfolding list_head
    head_none none = rw (drop_pairs kinds values at equal h) (go (kind_allowed levels chutes (get_or kinds at 0)) none)
      where
        go : (b : Bool) → None ≡ cond b (Some (kind_of (get_or kinds at 0))) None
            → Err (record { place = at })
            ≡ head_answer (cond (b && leb (get_or values at 0) max_number)
            (first (get_or kinds at 0) (get_or values at 0) (at + 1) (drop (at + 1) (pairs kinds values))) (wrong at))
        go true e = absurd cc
        go false e = refl

    module _ (kind : Kind) (some : Some kind ≡ allowed_kind levels chutes (get_or kinds at 0)) where
      allowed : (kind_allowed levels chutes (get_or kinds at 0) ≡ true) × (kind ≡ kind_of (get_or kinds at 0))
      allowed = go (kind_allowed levels chutes (get_or kinds at 0)) some
        where
          go : (b : Bool) → Some kind ≡ cond b (Some (kind_of (get_or kinds at 0))) None → (b ≡ true) × (kind ≡ kind_of (get_or kinds at 0))
          go true e = (refl, cc)
          go false e = absurd cc

      pub head_entry : get_or values at 0 ≤ max_number
          → Ok (record { kind = kind; value = get_or values at 0; next = at + 1 })
          ≡ head_answer (list_head levels chutes at (drop at (pairs kinds values)))
      unfolding list_head
      head_entry v = rw (drop_pairs kinds values at equal h, allowed.0, le-leb _ _ v, allowed.1)

      pub head_value : max_number < get_or values at 0 → Err (record { place = at }) ≡ head_answer (list_head levels chutes at (drop at (pairs kinds values)))
      unfolding list_head
      head_value v = rw (drop_pairs kinds values at equal h, allowed.0, lt-leb _ _ v)

-- all entries were read, from where the pass came to
abbrev pub checked : ℕ → Result Progress Malformed → Bool
checked n (Ok p) = eqb p.at n
checked n (Err m) = false

all_checked : (l : List Entry) (from : Progress) (n at : ℕ) (r : Read Entry) → at ≤ length l → After l n at r
    → checked (length l) (passed_over 0 from r) ≡ all_read r
all_checked l from n at (reached k next []) h a =
    let e : next ≡ length l = omega (arith, ap length a.left, length-drop next l, a.inside h) in
    eq-eqb next (length l) e
all_checked l from n at (reached k next (x ∷ rest)) h a =
    let o : next ≡ length l → ⊥ = λ q. omega (arith, ap length a.left, length-drop next l) in
    ne_eqb next (length l) o
all_checked l from n at (breach place) h a = refl

-- the rules, by the tests of the code
module _ (outer : ℕ) (kinds values : List ℕ) where
  pub allowed_lengths : (length kinds ≡ length values → ⊥) → false ≡ lists_allowed outer kinds values
  unfolding lists_allowed
  allowed_lengths n = rw (ne_eqb _ _ n)

  module _ (equal : length kinds ≡ length values) where
    pub allowed_outer : max_number < outer → false ≡ lists_allowed outer kinds values
    unfolding lists_allowed halls_allowed
    allowed_outer h = rw (eq-eqb _ _ equal, lt-leb _ _ h)

    -- from where the pass came to
    module _ (h : outer ≤ max_number) where
      checked_is : (r : Result Progress Malformed)
          → r ≡ passed_over 0 (start_at 0) (entries_of list_head levels_below outer 0 0 (drop 0 (pairs kinds values)))
          → checked (length kinds) r ≡ lists_allowed outer kinds values
      unfolding lists_allowed halls_allowed
      checked_is r e =
          let l : List Entry = pairs kinds values in
          let n : length l ≡ length kinds = length_pairs kinds values equal in
          rw (e, eq-eqb _ _ equal, le-leb _ _ h, ← n)
          (all_checked l (start_at 0) outer 0 (entries_of list_head levels_below outer 0 0 l) (omega arith)
          (after_hall l list_head (λ at. at ≤ length l) (λ at h. h) (λ levels chutes at h. list_heads l levels chutes at) levels_below outer 0 0
          (omega arith)))

      pub allowed_read : (p : Progress)
          → Ok p ≡ passed_over 0 (start_at 0) (entries_of list_head levels_below outer 0 0 (drop 0 (pairs kinds values)))
          → eqb p.at (length kinds) ≡ lists_allowed outer kinds values
      allowed_read p e = checked_is (Ok p) e

      pub allowed_breach : (m : Malformed)
          → Err m ≡ passed_over 0 (start_at 0) (entries_of list_head levels_below outer 0 0 (drop 0 (pairs kinds values)))
          → false ≡ lists_allowed outer kinds values
      allowed_breach m e = checked_is (Err m) e

-- what the code's tests say of an entry, and of the lists
pub ruleset head_tests = (head_end, head_none, head_value, head_entry)

pub ruleset rule_tests = (allowed_lengths, allowed_outer, allowed_read, allowed_breach)

-- for the code that tests the lengths, the outermost number and what the pass came to
pub ruleset allowed_by_tests = (allowed_lengths, allowed_outer, allowed_read, allowed_breach)
