-- Reading what was written gives the rows (docs/RULES.md, 'Chute plan'), by the answers that the entries promise.
use Rattle.std.specs.Prelude.{ℕ, ◌≤◌, ◌≡◌, List, [], ◌∷◌, length}
use Rattle.answers.specs.Numbers.{done}
use Rattle.answers.specs.Breaches.{no_place}
use Rattle.plan_read.specs.Limits.{max_rows, max_destination}
use Rattle.plan.specs.Answers.{summary_of, lookup_of, lookup_in}
use Rattle.plan_length.specs.Length.{length_of}
use Rattle.plan_write.specs.Write.{write_refusal, written_of}

-- bytes that answer as the rows l do, at every chute, those that they do not have too
pub record ReadsAs (l s : List ℕ) : Type 0 where
  pub count : summary_of s ≡ record { number = done; rows = length l; place = no_place }
  pub every_chute : (chute : ℕ) → lookup_of s chute ≡ lookup_in l chute

-- every destination fits three groups
abbrev pub EachFits : List ℕ → Type 0
EachFits [] = Unit
EachFits (v ∷ l) = (v ≤ max_destination) × EachFits l

pub record RoundTrip : Type 0 where
  -- rows that keep the plan's rules are not refused
  pub accepts : (l : List ℕ) → length l ≤ max_rows → EachFits l → (length_of l).number ≡ done
  -- where writing was accepted, the buffer reads as the rows
  pub reads_back : (l out : List ℕ) → write_refusal l (length out) ≡ done → ReadsAs l (written_of l out)
  -- a buffer of the length that was asked for first is accepted
  pub length_accepted : (l : List ℕ) → (length_of l).number ≡ done → write_refusal l (length_of l).length ≡ done
