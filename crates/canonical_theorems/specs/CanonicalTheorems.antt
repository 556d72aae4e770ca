-- Every plan has one form (docs/RULES.md, 'Chute plan' and 'Hall plan'), by the answers that the entries promise. A number in more groups than it needs is
-- malformed, so the bytes of an accepted plan are those that writing gives, and plans that say the same are equal bytes. `Bytes` are numbers below 256, which
-- lent bytes are.
use Rattle.std.specs.Prelude.{ℕ, ◌≡◌, List, length}
use Rattle.answers.specs.Numbers.{done}
use Rattle.encode.specs.Laws.Bytes.{Bytes}
use Rattle.plan_read.specs.Plan.{rows, plan_of, row_destinations}
use Rattle.plan_read.specs.declared.Row.{Row}
use Rattle.plan.specs.Answers.{summary_of, lookup_of}
use Rattle.plan_length.specs.Length.{written_plan}
use Rattle.plan_write.specs.Write.{write_refusal, written_of}
use Rattle.hall_entry.specs.Entries.{Entry, kinds_of, values_of}
use Rattle.hall_read.specs.Halls.{halls, halls_of}
use Rattle.hall.specs.Answers.{hall_summary_of}
use Rattle.hall_lists.specs.Lists.{lists_kinds, lists_values}
use Rattle.hall_length.specs.Written.{written_halls}
use Rattle.hall_write.specs.Write.{hall_write_refusal, hall_written_of}
use Rattle.hall_theorems.specs.Tree.{Hall, count, listed}
use Rattle.hall_theorems.specs.HallTheorems.{IsHall}

-- two accepted plans that answer every lookup alike, that of a chute which they do not have too
pub record SameLookups (s t : List ℕ) : Type 0 where
  pub accepted : (summary_of s).number ≡ done
  pub other_accepted : (summary_of t).number ≡ done
  pub every_chute : (chute : ℕ) → lookup_of s chute ≡ lookup_of t chute

-- two accepted hall plans with equal summaries, which leave equal kinds and values in lists of the length that the summary tells
pub record SameLists (s t kinds values : List ℕ) : Type 0 where
  pub accepted : (hall_summary_of s).number ≡ done
  pub summary : hall_summary_of s ≡ hall_summary_of t
  pub kinds_length : length kinds ≡ (hall_summary_of s).entries
  pub values_length : length values ≡ (hall_summary_of s).entries
  pub lists_kinds_lem : lists_kinds s kinds (length values) ≡ lists_kinds t kinds (length values)
  pub lists_values_lem : lists_values s (length kinds) values ≡ lists_values t (length kinds) values

-- these destinations can be written into the buffer, which then holds s
pub record WritesBack (destinations s out : List ℕ) : Type 0 where
  pub accepted : write_refusal destinations (length out) ≡ done
  pub holds : written_of destinations out ≡ s

-- this hall can be written into the buffer, which then holds s
pub record HallWritesBack (h : Hall) (s out : List ℕ) : Type 0 where
  pub accepted : hall_write_refusal (count h) (kinds_of (listed h)) (values_of (listed h)) (length out) ≡ done
  pub holds : hall_written_of (count h) (kinds_of (listed h)) (values_of (listed h)) out ≡ s

pub record CanonicalTheorems : Type 0 where
  -- bytes that read as rows are the destinations of these rows written
  pub plan_written : (s : List ℕ) (l : List Row) → Bytes s → plan_of s ≡ rows l → s ≡ written_plan (row_destinations l)
  -- so plans that answer alike are equal bytes
  pub equal_plans : (s t : List ℕ) → Bytes s → Bytes t → SameLookups s t → s ≡ t
  -- and the destinations that were read, written into a buffer as long as the plan, give the plan
  pub write_back : (s out : List ℕ) (l : List Row) → Bytes s → plan_of s ≡ rows l → length out ≡ length s → WritesBack (row_destinations l) s out
  -- bytes that read as halls are their outermost number and entries written
  pub halls_written : (s : List ℕ) (outer : ℕ) (l : List Entry) → Bytes s → halls_of s ≡ halls outer l → s ≡ written_halls outer l
  -- so hall plans that are one hall are equal bytes
  pub equal_halls : (h : Hall) (s t : List ℕ) → Bytes s → Bytes t → IsHall h s → IsHall h t → s ≡ t
  -- and so are those with equal summaries and lists
  pub equal_lists : (s t kinds values : List ℕ) → Bytes s → Bytes t → SameLists s t kinds values → s ≡ t
  -- and the hall that was read, written into a buffer as long as the hall plan, gives the hall plan
  pub hall_write_back : (h : Hall) (s out : List ℕ) → Bytes s → IsHall h s → length out ≡ length s → HallWritesBack h s out
