-- The answer of reading one entry: its number and its values.
use Rattle.std.specs.Prelude.{ℕ, zero, suc, ◌≡◌, cond, Option, Some, None, Result, Ok, Err}
use Rattle.answers.specs.Numbers.{done, malformed_plan}
use Rattle.answers.specs.Breaches.{no_place}
use Rattle.answers.specs.declared.Malformed.{Malformed}
use Rattle.hall_entry.specs.Entries.{chute_kind, hall_kind, kind_allowed, Head, first, wrong}
use Rattle.hall_entry.specs.declared.Kind.{Kind}
use Rattle.hall_entry.specs.declared.Kind.TheVariants.{Chute, Hall}
use Rattle.hall_entry.specs.declared.EntryRead.{EntryRead}

-- the number of a kind, and the kind of a number that is one
abbrev pub kind_number : Kind → ℕ
kind_number Chute = chute_kind
kind_number Hall = hall_kind

abbrev pub kind_of : ℕ → Kind
kind_of zero = Chute
kind_of (suc k) = Hall

-- the kind of a number, if an entry of it may stand where `levels` levels are left below and `chutes` chutes stand before it
abbrev pub allowed_kind : ℕ → ℕ → ℕ → Option Kind
allowed_kind levels chutes k = cond (kind_allowed levels chutes k) (Some (kind_of k)) None

-- the code's answer
abbrev pub head_answer : {A : Type 0} → Head A → Result EntryRead Malformed
head_answer (first k v next rest) = Ok (record { kind = kind_of k; value = v; next = next })
head_answer (wrong place) = Err (record { place = place })

-- number and values of each answer: 0, the entry and the place past it; or 9, no entry, and the place of the breach
pub record EntryValues : Type 0 where
  pub number : ℕ
  pub kind : ℕ
  pub value : ℕ
  pub next : ℕ
  pub place : ℕ

abbrev pub entry_values : Result EntryRead Malformed → EntryValues
entry_values (Ok e) = record { number = done; kind = kind_number e.kind; value = e.value; next = e.next; place = no_place }
entry_values (Err m) = record { number = malformed_plan; kind = 0; value = 0; next = 0; place = m.place }

abbrev pub head_values : {A : Type 0} → Head A → EntryValues
head_values (first k v next rest) = record { number = done; kind = k; value = v; next = next; place = no_place }
head_values (wrong place) = record { number = malformed_plan; kind = 0; value = 0; next = 0; place = place }

-- r answers what stands first
pub record ReadsEntry {A : Type 0} (h : Head A) (r : Result EntryRead Malformed) : Type 0 where
  pub answer : r ≡ head_answer h
  pub values : entry_values r ≡ head_values h
