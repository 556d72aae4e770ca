-- The answer of reading one number.
use Rattle.std.specs.Prelude.{ℕ, ◌≡◌, Result, Ok, Err}
use Rattle.answers.specs.Numbers.{done, malformed_plan}
use Rattle.answers.specs.Breaches.{no_place}
use Rattle.leb128.specs.Number.{Parsed, value, bad}
use Rattle.leb128.specs.declared.Number.{Number}
use Rattle.answers.specs.declared.Malformed.{Malformed}

-- the code's answer
abbrev pub number_answer : Parsed → Result Number Malformed
number_answer (value v next rest) = Ok (record { value = v; next = next })
number_answer (bad place) = Err (record { place = place })

-- number and values of each answer: 0, the value and the place past it; or 9, no value, and the place of the failure
pub record NumberValues : Type 0 where
  pub number : ℕ
  pub value : ℕ
  pub next : ℕ
  pub place : ℕ

abbrev pub number_values : Result Number Malformed → NumberValues
number_values (Ok n) = record { number = done; value = n.value; next = n.next; place = no_place }
number_values (Err e) = record { number = malformed_plan; value = 0; next = 0; place = e.place }

abbrev pub parsed_values : Parsed → NumberValues
parsed_values (value v next rest) = record { number = done; value = v; next = next; place = no_place }
parsed_values (bad place) = record { number = malformed_plan; value = 0; next = 0; place = place }

-- r answers what was read
pub record ReadsNumber (p : Parsed) (r : Result Number Malformed) : Type 0 where
  pub answer : r ≡ number_answer p
  pub values : number_values r ≡ parsed_values p
