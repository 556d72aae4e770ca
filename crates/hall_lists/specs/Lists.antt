-- Reading a hall plan into two lent lists (docs/RULES.md, 'Hall plan'): both have exactly as many elements as the plan has entries, else 9, with no place;
-- and on a refusal they hold what they held.
use Rattle.std.specs.Prelude.{ℕ, ◌≡◌, List, Bool, cond, ◌&&◌, eqb, length}
use Rattle.answers.specs.Numbers.{malformed_plan}
use Rattle.answers.specs.Breaches.{no_place}
use Rattle.hall_entry.specs.Entries.{kinds_of, values_of}
use Rattle.hall_read.specs.Halls.{HallPlan, halls, refused, halls_of}
use Rattle.hall.specs.Answers.{refused_summary, hall_summary}
use Rattle.hall.specs.declared.HallSummary.{HallSummary}

-- lists of n and m elements fit so many entries
abbrev pub lists_fit : ℕ → ℕ → ℕ → Bool
lists_fit entries n m = eqb n entries && eqb m entries

-- the answer
abbrev pub lists_answer : ℕ → ℕ → HallPlan → HallSummary
lists_answer n m (halls outer l) = cond (lists_fit (length l) n m) (hall_summary (halls outer l)) (refused_summary malformed_plan no_place)
lists_answer n m (refused r place) = refused_summary r place

unfoldable pub lists_summary : List ℕ → ℕ → ℕ → HallSummary
lists_summary s n m = lists_answer n m (halls_of s)

-- what the two lists hold afterwards: the entries' kinds and values, or what they held before
abbrev pub kinds_held : ℕ → HallPlan → List ℕ → List ℕ
kinds_held m (halls outer l) kinds = cond (lists_fit (length l) (length kinds) m) (kinds_of l) kinds
kinds_held m (refused r place) kinds = kinds

abbrev pub values_held : ℕ → HallPlan → List ℕ → List ℕ
values_held n (halls outer l) values = cond (lists_fit (length l) n (length values)) (values_of l) values
values_held n (refused r place) values = values

unfoldable pub lists_kinds : List ℕ → List ℕ → ℕ → List ℕ
lists_kinds s kinds m = kinds_held m (halls_of s) kinds

unfoldable pub lists_values : List ℕ → ℕ → List ℕ → List ℕ
lists_values s n values = values_held n (halls_of s) values

-- reading s into two lists answers r, and leaves `k` and `v` in them
pub record FillsLists (s kinds values k v : List ℕ) (r : HallSummary) : Type 0 where
  pub answer : r ≡ lists_summary s (length kinds) (length values)
  pub kinds_held_lem : k ≡ lists_kinds s kinds (length values)
  pub values_held_lem : v ≡ lists_values s (length kinds) values
