-- Laws on the fed bytes of a call: its start's prefix, its message and its ending, padded; and what KMAC's message fixes.
use Rattle.std.specs.Prelude.{◌≡◌, refl, List, ◌++◌, ℕ, ◌*◌, ◌%◌, length}
use Rattle.std.proofs.Common.{ap, ◌∙◌, append_assoc, append-nil, arith, length-append}
use Rattle.encode.specs.Padding.{rate, padded}
use Rattle.encode.specs.Encode.{encode_string, right_encode, bytepad, KMAC}
use Rattle.encode.proofs.Laws.Encode.{encode_string-free, right_encode-free, bytepad_free}
use Rattle.encode.proofs.Laws.Lengths.{bytepad_blocks}
use Rattle.encode.proofs.Laws.Padding.{padded_after}
use Rattle.calls.specs.Input.{fed_bytes}
use Rattle.calls.specs.Start.{Start, named, keyed, start_prefix, start_suffix}
use Rattle.calls.specs.Call.{Function, Call, cshake256, kmac256, kmacxof256, start_of, message_of, output_bytes, kmac_input, fed, ending, extendable, extendable_call}
use Rattle.calls.specs.Laws.Input.{cshake_prefix-blocks}

kmac_parts : (K X : List ℕ) (L : ℕ) (S : List ℕ)
    → fed_bytes (kmac_input K X L S) ≡ padded (start_suffix (keyed K S)) (start_prefix (keyed K S) ++ X ++ right_encode L)
unfolding fed_bytes start_prefix start_suffix
kmac_parts K X L S = ap (padded 0x04) (simp append_assoc)

pub fed_parts : {f : Function} (c : Call f)
    → fed c ≡ padded (start_suffix (start_of c)) (start_prefix (start_of c) ++ message_of c ++ ending f (output_bytes c))
unfolding fed fed_bytes start_prefix start_suffix
fed_parts (cshake256 X n N S) = rw append-nil
fed_parts (kmac256 K X n S) = kmac_parts K X (8 * n) S
fed_parts (kmacxof256 K X n S) = kmac_parts K X 0 S

-- The call of a session's start has that start, the message and the output, and its fed bytes don't depend on the output

pub extendable_start : (s : Start) (X : List ℕ) (n : ℕ) → start_of (extendable_call s X n) ≡ s
extendable_start (named N S) X n = refl
extendable_start (keyed K S) X n = refl

pub extendable_message : (s : Start) (X : List ℕ) (n : ℕ) → message_of (extendable_call s X n) ≡ X
extendable_message (named N S) X n = refl
extendable_message (keyed K S) X n = refl

pub extendable_output : (s : Start) (X : List ℕ) (n : ℕ) → output_bytes (extendable_call s X n) ≡ n
extendable_output (named N S) X n = refl
extendable_output (keyed K S) X n = refl

pub extendable_parts : (s : Start) (X : List ℕ) (n : ℕ) → fed (extendable_call s X n) ≡ padded (start_suffix s) (start_prefix s ++ X ++ ending (extendable s) 0)
extendable_parts (named N S) X n = fed_parts (cshake256 X n N S)
extendable_parts (keyed K S) X n = fed_parts (kmacxof256 K X n S)

-- The prefix

-- it is whole blocks
pub start_prefix-blocks : (s : Start) → length (start_prefix s) % rate ≡ 0
unfolding start_prefix
start_prefix-blocks (named N S) = cshake_prefix-blocks N S
start_prefix-blocks (keyed K S) =
    rw length-append (omega (arith, cshake_prefix-blocks KMAC S, bytepad_blocks (encode_string K)))

-- so it stands before the padded message as it is
pub fed_after_prefix : {f : Function} (c : Call f)
    → fed c ≡ start_prefix (start_of c) ++ padded (start_suffix (start_of c)) (message_of c ++ ending f (output_bytes c))
fed_after_prefix {f} c =
    fed_parts c
    ∙ rw append_assoc
    (padded_after (start_suffix (start_of c)) (start_prefix (start_of c)) (message_of c ++ ending f (output_bytes c)) (start_prefix-blocks (start_of c)))

-- key, message and encoded number can be told apart
pub kmac_message_fixes : (K X K' X' : List ℕ) (L L' : ℕ)
    → bytepad (encode_string K) rate ++ X ++ right_encode L ≡ bytepad (encode_string K') rate ++ X' ++ right_encode L'
    → (K ≡ K') × (X ≡ X') × (L ≡ L')
kmac_message_fixes K X K' X' L L' e =
    let r = right_encode-free L L' (bytepad (encode_string K) rate ++ X) (bytepad (encode_string K') rate ++ X') e in
    let s = bytepad_free encode_string rate encode_string-free K K' X X' r.1 in
    (s.0, s.1, r.0)
