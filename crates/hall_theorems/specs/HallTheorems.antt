-- What holds of hall plans (docs/RULES.md, 'Hall plan'), by the answers that the entries promise.
use Rattle.std.specs.Prelude.{ℕ, ◌≡◌, List, length}
use Rattle.answers.specs.Numbers.{done}
use Rattle.plan.specs.Answers.{summary_of, lookup_of, lookup_in}
use Rattle.plan_length.specs.Length.{length_of}
use Rattle.plan_write.specs.Write.{write_refusal, written_of}
use Rattle.hall_entry.specs.Entries.{kinds_of, values_of}
use Rattle.hall.specs.Answers.{accepted_summary, hall_summary_of, hall_lookup_of}
use Rattle.hall.specs.declared.HallSummary.{HallSummary}
use Rattle.hall_lists.specs.Lists.{lists_summary, lists_kinds, lists_values}
use Rattle.hall_length.specs.Written.{written_halls}
use Rattle.hall_length.specs.Length.{length_within, hall_length_of}
use Rattle.hall_write.specs.Write.{hall_write_refusal, hall_written_of}
use Rattle.hall_theorems.specs.Tree.{Hall, count, listed, destinations_of, HallLimits}

abbrev pub summary_of_hall : Hall → HallSummary
summary_of_hall h = accepted_summary (count h) (length (listed h)) (length (destinations_of h))

-- the bytes s are the hall h: every question on s is answered as h has it
pub record IsHall (h : Hall) (s : List ℕ) : Type 0 where
  pub summary : hall_summary_of s ≡ summary_of_hall h
  -- at every chute, those that the hall does not have too, as the flat list of destinations in reading order has it
  pub every_chute : (chute : ℕ) → hall_lookup_of s chute ≡ lookup_in (destinations_of h) chute
  -- reading into lists of the length that the summary tells
  pub lists_answer_lem : lists_summary s (length (listed h)) (length (listed h)) ≡ summary_of_hall h
  pub lists_kinds_lem : (kinds : List ℕ) → length kinds ≡ length (listed h) → lists_kinds s kinds (length (listed h)) ≡ kinds_of (listed h)
  pub lists_values_lem : (values : List ℕ) → length values ≡ length (listed h) → lists_values s (length (listed h)) values ≡ values_of (listed h)

-- of an accepted hall plan
pub record AcceptedHall (s : List ℕ) : Type 0 where
  pub hall : Hall
  -- at most 8 levels and 4,096 chutes
  pub within : HallLimits hall
  pub is : IsHall hall s

-- the bytes s are the hall of an outermost number of entries and two lists
pub record Written (outer : ℕ) (kinds values s : List ℕ) : Type 0 where
  pub accepted : AcceptedHall s
  pub same_outer : count accepted.hall ≡ outer
  pub same_kinds : kinds_of (listed accepted.hall) ≡ kinds
  pub same_values : values_of (listed accepted.hall) ≡ values

pub record HallTheorems : Type 0 where
  -- an accepted hall plan is a hall within the limits
  pub accepted : (s : List ℕ) → (hall_summary_of s).number ≡ done → AcceptedHall s
  -- and the flat plan that is written of its destinations in reading order answers every lookup as it does
  pub flat_plan : (h : Hall) (s out : List ℕ) → HallLimits h → IsHall h s → length out ≡ (length_of (destinations_of h)).length
      → (write_refusal (destinations_of h) (length out) ≡ done) × ((chute : ℕ) → hall_lookup_of s chute ≡ lookup_of (written_of (destinations_of h) out) chute)
  -- where writing was accepted, the buffer reads as the same halls: the outermost number, the kinds and the values
  pub reads_back : (outer : ℕ) (kinds values out : List ℕ) → hall_write_refusal outer kinds values (length out) ≡ done
      → Written outer kinds values (hall_written_of outer kinds values out)
  -- so halls that were written as equal bytes are equal
  pub equal_bytes : (outer outer' : ℕ) (kinds kinds' values values' out out' : List ℕ) → hall_write_refusal outer kinds values (length out) ≡ done
      → hall_write_refusal outer' kinds' values' (length out') ≡ done → hall_written_of outer kinds values out ≡ hall_written_of outer' kinds' values' out'
      → (outer ≡ outer') × ((kinds ≡ kinds') × (values ≡ values'))
  -- every hall within the limits can be written: it has a length, or 5 where its plan would be longer than 65,536 bytes
  pub every_hall : (h : Hall) → HallLimits h
      → hall_length_of (count h) (kinds_of (listed h)) (values_of (listed h)) ≡ length_within (length (written_halls (count h) (listed h)))
  -- and a buffer of the length that was asked for first is accepted
  pub length_accepted : (outer : ℕ) (kinds values : List ℕ) → (hall_length_of outer kinds values).number ≡ done
      → hall_write_refusal outer kinds values (hall_length_of outer kinds values).length ≡ done
  -- bytes that are accepted as a flat plan and as a hall plan have no rows and no entries: a plan of the wrong sort is refused
  pub not_both : (s : List ℕ) → (summary_of s).number ≡ done → (hall_summary_of s).number ≡ done → ((summary_of s).rows ≡ 0) × ((hall_summary_of s).outer ≡ 0)
  -- a hall's number of entries and its two lists tell one hall from every other
  pub one_hall : (h k : Hall) → count h ≡ count k → kinds_of (listed h) ≡ kinds_of (listed k) → values_of (listed h) ≡ values_of (listed k) → h ≡ k
