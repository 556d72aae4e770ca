-- The numbers that a session answers with are the table's, by what was accepted before.
use mathlib.Core.Path.{◌≡◌, refl, ap}
use mathlib.Core.Bool.{Bool, true, false, cond}
use mathlib.Core.List.{List, [], ◌∷◌}
use Prim.Native.Nat.{ℕ, ◌+◌, ◌%◌}
use lib.Dec.{ltb}
use lib.ListN.{length}
use Rattle.answers.specs.Done.{answered, answer_number}
use Rattle.encode.specs.Padding.{rate}
use Rattle.calls.specs.Limits.{max_message, max_output}
use Rattle.sponge.specs.Running.{Running, running, absorbed, after}
use Rattle.session_state.specs.declared.Phase.{Phase}
use Rattle.session_state.specs.declared.Phase.TheVariants.{Taking, Giving}
use Rattle.session_state.specs.declared.Session.{Session}
use Rattle.session_state.specs.Session.{session_answer, taking_in, giving_sponge, giving}
use Rattle.session.specs.History.{SessionCall, takes, gives, called, numbers, table_numbers}

abbrev is_giving : Phase → Bool
is_giving (Taking p) = false
is_giving (Giving p) = true

abbrev session : List ℕ → Phase → ℕ → ℕ → ℕ → Bool → Session
session a ph t g x k = record { lanes = a; phase = ph; taken = t; given = g; limit = max_output; suffix = x; kmac = k }

-- a call that is refused with r or leads to the session t
number_one : (refuse : Bool) (r : ℕ) (s t : Session) (cs : List SessionCall) (l m : List ℕ) → answer_number (answered r (tt {0})) ≡ r → numbers s cs ≡ l
    → numbers t cs ≡ m
    → answer_number (cond refuse (session_answer r s) (session_answer 0 t)).answer ∷ numbers (cond refuse (session_answer r s) (session_answer 0 t)).session cs
    ≡ cond refuse (r ∷ l) (0 ∷ m)
number_one true r s t cs l m n h i = λ j. n j ∷ h j
number_one false r s t cs l m n h i = ap (λ (n : List ℕ). 0 ∷ n) i

pub numbers_table : (cs : List SessionCall) (a : List ℕ) (ph : Phase) (t g x : ℕ) (k : Bool)
    → numbers (session a ph t g x k) cs ≡ table_numbers (is_giving ph) t g cs
unfolding numbers table_numbers called taking_in giving
numbers_table [] a ph t g x k = refl
numbers_table (takes m ∷ cs) a (Taking p) t g x k =
    let u : Running = absorbed (running a (p % rate)) m in
    number_one (ltb max_message (t + length m)) 5 (session a (Taking p) t g x k) (session u.lanes (Taking u.position) (t + length m) g x k) cs
    (table_numbers false t g cs) (table_numbers false (t + length m) g cs) refl
    (numbers_table cs a (Taking p) t g x k)
    (numbers_table cs u.lanes (Taking u.position) (t + length m) g x k)
numbers_table (takes m ∷ cs) a (Giving p) t g x k = ap (λ (n : List ℕ). 1 ∷ n) (numbers_table cs a (Giving p) t g x k)
numbers_table (gives out ∷ cs) a ph t g x k =
    let u : Running = after (length out) (giving_sponge ph (session a ph t g x k)) in
    number_one (ltb max_output (g + length out)) 6 (session a ph t g x k) (session u.lanes (Giving u.position) t (g + length out) x k) cs
    (table_numbers (is_giving ph) t g cs) (table_numbers true t (g + length out) cs) refl
    (numbers_table cs a ph t g x k)
    (numbers_table cs u.lanes (Giving u.position) t (g + length out) x k)
