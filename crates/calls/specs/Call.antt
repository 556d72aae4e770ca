-- The calls of the three functions, in the standard's order of arguments (SP 800-185, 3.3, 4.3 and 4.3.1): what each is refused for and what it is fed.
-- A function is a constructor of `Function` and one of `Call`, and a clause in each definition that goes by them.
use Rattle.std.specs.Prelude.{◌≡◌, cond, List, [], ◌++◌, ℕ, ◌*◌, eqb, length}
use Rattle.answers.specs.Numbers.{done, input_too_long, bad_output_length}
use Rattle.answers.specs.Done.{first_number, over}
use Rattle.encode.specs.Padding.{rate}
use Rattle.encode.specs.Encode.{encode_string, right_encode, bytepad, KMAC}
use Rattle.calls.specs.Limits.{max_message, max_output}
use Rattle.calls.specs.Input.{Input, fed_bytes}
use Rattle.calls.specs.Start.{Start, named, keyed, start_refusal}

pub data Function : Type 0 where
  cSHAKE256 KMAC256 KMACXOF256 : Function

-- n is the length of the lent output in bytes: L is 8 * n
pub data Call : Function → Type 0 where
  cshake256 : (X : List ℕ) (n : ℕ) (N S : List ℕ) → Call cSHAKE256
  kmac256 : (K X : List ℕ) (n : ℕ) (S : List ℕ) → Call KMAC256
  kmacxof256 : (K X : List ℕ) (n : ℕ) (S : List ℕ) → Call KMACXOF256

abbrev pub start_of : {f : Function} → Call f → Start
start_of (cshake256 X n N S) = named N S
start_of (kmac256 K X n S) = keyed K S
start_of (kmacxof256 K X n S) = keyed K S

abbrev pub message_of : {f : Function} → Call f → List ℕ
message_of (cshake256 X n N S) = X
message_of (kmac256 K X n S) = X
message_of (kmacxof256 K X n S) = X

abbrev pub output_bytes : {f : Function} → Call f → ℕ
output_bytes (cshake256 X n N S) = n
output_bytes (kmac256 K X n S) = n
output_bytes (kmacxof256 K X n S) = n

-- Refusals

-- 5 of the table, for a message of m bytes
abbrev pub message_refusal : ℕ → ℕ
message_refusal m = over m max_message input_too_long

-- 6 of the table, for an output of n bytes
abbrev pub output_refusal : Function → ℕ → ℕ
output_refusal cSHAKE256 n = over n max_output bad_output_length
output_refusal KMAC256 n = first_number (over n max_output bad_output_length) (cond (eqb n 0) bad_output_length done)
output_refusal KMACXOF256 n = over n max_output bad_output_length

-- the smallest that applies: the start's number k, then 5 for a message of m bytes, then 6 for an output of n
abbrev pub call_refusal : Function → (k m n : ℕ) → ℕ
call_refusal f k m n = first_number k (first_number (message_refusal m) (output_refusal f n))

-- the number that a call is answered with
unfoldable pub refusal : {f : Function} → Call f → ℕ
refusal {f} c = call_refusal f (start_refusal (start_of c)) (length (message_of c)) (output_bytes c)

abbrev pub Accepted : {f : Function} → Call f → Type 0
Accepted c = refusal c ≡ 0

-- Fed bytes

-- cSHAKE256 of bytepad(encode_string(K), 136), X, right_encode(L), with N = KMAC
abbrev pub kmac_input : List ℕ → List ℕ → ℕ → List ℕ → Input
kmac_input K X L S = record { name = KMAC; customisation = S; message = bytepad (encode_string K) rate ++ X ++ right_encode L }

-- the input of the cSHAKE256 call that a call is made of
abbrev pub input : {f : Function} → Call f → Input
input (cshake256 X n N S) = record { name = N; customisation = S; message = X }
input (kmac256 K X n S) = kmac_input K X (8 * n) S
input (kmacxof256 K X n S) = kmac_input K X 0 S

-- the padded bytes of a call (docs/RULES.md, 'Fed alike')
unfoldable pub fed : {f : Function} → Call f → List ℕ
fed c = fed_bytes (input c)

-- the bytes that a function puts after its message; `fed_parts` of Laws/Fed has the fed bytes by start, message and ending
abbrev pub ending : Function → ℕ → List ℕ
ending cSHAKE256 n = []
ending KMAC256 n = right_encode (8 * n)
ending KMACXOF256 n = right_encode 0

-- Extendable functions

-- the extendable function that a start begins, in one call or piecemeal
abbrev pub extendable : Start → Function
extendable (named N S) = cSHAKE256
extendable (keyed K S) = KMACXOF256

-- its call over a message, for n bytes
abbrev pub extendable_call : (s : Start) → List ℕ → ℕ → Call (extendable s)
extendable_call (named N S) X n = cshake256 X n N S
extendable_call (keyed K S) X n = kmacxof256 K X n S
