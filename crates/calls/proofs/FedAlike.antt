-- Demand 3 of the three functions. The function is read off the fed bytes, so no pair of functions is compared: a further function is a clause in each
-- definition and law that goes by `Function` or `Call`.
use mathlib.Core.Path.{◌≡◌, refl, ap, ◌∙◌, sym, path_j}
use mathlib.Core.Bool.{cond}
use mathlib.Core.List.{List, []}
use Prim.Native.Nat.{ℕ, ◌*◌}
use native.Mathlib.Omega.{arith}
use borrow.Author.Tests.{ne_eqb, eqb-false}
use lib.Dec.{eqb}
use lib.ListN.{length}
use Rattle.encode.specs.Encode.{KMAC}
use Rattle.encode.proofs.Laws.Encode.{last_encoded, last_encoded-of}
use Rattle.calls.specs.Limits.{max_name, max_customisation, max_output}
use Rattle.calls.specs.Input.{Input, fed_bytes}
use Rattle.answers.specs.Done.{over}
use Rattle.answers.specs.Laws.{test_passed, first_number-passed}
use Rattle.calls.specs.Start.{same_bytes, start_refusal}
use Rattle.calls.specs.Call.{Function, cSHAKE256, KMAC256, KMACXOF256, Call, cshake256, kmac256, kmacxof256, Accepted, kmac_input, input, fed}
use Rattle.calls.specs.Arguments.{Arguments, arguments}
use Rattle.calls.specs.FedAlike.{FedAlikeExactly}
use Rattle.calls.specs.Laws.Refusal.{start_accepted, output_accepted}
use Rattle.calls.specs.Laws.Input.{fed_bytes-fixes}
use Rattle.calls.proofs.Laws.Fed.{kmac_message_fixes}

-- the function whose accepted calls have this input: KMAC's own name is refused to cSHAKE256, and KMAC256 encodes no output length of 0
unfoldable pub function_of : Input → Function
function_of i = cond (same_bytes i.name KMAC) (cond (eqb (last_encoded i.message) 0) KMACXOF256 KMAC256) cSHAKE256

-- KMACXOF256 is known whether a call is accepted or not
pub function_of-xof : (K X : List ℕ) (n : ℕ) (S : List ℕ) → function_of (input (kmacxof256 K X n S)) ≡ KMACXOF256
unfolding function_of
function_of-xof K X n S = rw last_encoded-of

pub function_of-input : {f : Function} (c : Call f) → Accepted c → function_of (input c) ≡ f
unfolding function_of start_refusal
function_of-input (cshake256 X n N S) h =
    let long = first_number-passed (over (length N) max_name 3) _ (start_accepted (cshake256 X n N S) h) in
    let other = test_passed (same_bytes N KMAC) 3 0 (first_number-passed (over (length S) max_customisation 3) _ long.1).1 in
    rw other.0
function_of-input (kmac256 K X n S) h =
    let some = test_passed (eqb n 0) 5 0 (first_number-passed (over n max_output 6) _ (output_accepted (kmac256 K X n S) h)).1 in
    rw (last_encoded-of, ne_eqb (8 * n) 0 (λ z. eqb-false n 0 some.0 (omega arith)))
function_of-input (kmacxof256 K X n S) h = function_of-xof K X n S

-- of one function, the input fixes the arguments
input_fixes : {f : Function} (a b : Call f) → input a ≡ input b → arguments a ≡ arguments b
input_fixes (cshake256 X n N S) (cshake256 X' n' N' S') e =
    λ i. record { function = cSHAKE256; name = (e i).name; key = []; customisation = (e i).customisation; message = (e i).message; output = 0 }
input_fixes (kmac256 K X n S) (kmac256 K' X' n' S') e =
    let r = kmac_message_fixes K X K' X' (8 * n) (8 * n') (λ i. (e i).message) in
    let m : n ≡ n' = omega (arith, r.2) in
    λ i. record { function = KMAC256; name = []; key = r.0 i; customisation = (e i).customisation; message = r.1 i; output = m i }
input_fixes (kmacxof256 K X n S) (kmacxof256 K' X' n' S') e =
    let r = kmac_message_fixes K X K' X' 0 0 (λ i. (e i).message) in
    λ i. record { function = KMACXOF256; name = []; key = r.0 i; customisation = (e i).customisation; message = r.1 i; output = 0 }

-- and the arguments fix the input
input_by : Function → Arguments → Input
input_by cSHAKE256 t = record { name = t.name; customisation = t.customisation; message = t.message }
input_by KMAC256 t = kmac_input t.key t.message (8 * t.output) t.customisation
input_by KMACXOF256 t = kmac_input t.key t.message 0 t.customisation

input_by-arguments : {f : Function} (c : Call f) → input c ≡ input_by (arguments c).function (arguments c)
unfolding input_by
input_by-arguments (cshake256 X n N S) = refl
input_by-arguments (kmac256 K X n S) = refl
input_by-arguments (kmacxof256 K X n S) = refl

-- calls that are fed alike are of one function
pub alike_function : {f g : Function} (a : Call f) (b : Call g) → function_of (input a) ≡ f → function_of (input b) ≡ g → fed a ≡ fed b → f ≡ g
unfolding fed
alike_function a b p q e = sym p ∙ ap function_of (fed_bytes-fixes (input a) (input b) e) ∙ q

alike_arguments : {f g : Function} (a : Call f) (b : Call g) → Accepted a → Accepted b → fed a ≡ fed b → arguments a ≡ arguments b
unfolding fed
alike_arguments {f} {g} a b ha hb e =
    let i : input a ≡ input b = fed_bytes-fixes (input a) (input b) e in
    let p : f ≡ g = alike_function a b (function_of-input a ha) (function_of-input b hb) e in
    path_j (λ h q. (c : Call h) → input a ≡ input c → arguments a ≡ arguments c) (input_fixes a) p b i

arguments_alike : {f g : Function} (a : Call f) (b : Call g) → arguments a ≡ arguments b → fed a ≡ fed b
unfolding fed
arguments_alike a b e =
    ap fed_bytes (input_by-arguments a ∙ ap (λ (t : Arguments). input_by t.function t) e ∙ sym (input_by-arguments b))

pub fed_alike : FedAlikeExactly
fed_alike f g a b ha hb = (alike_arguments a b ha hb, arguments_alike a b)
