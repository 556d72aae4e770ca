-- The law that an accepted call on bytes is fed bytes: here, and only here, the limits of the refusal table count.
use Rattle.std.specs.Prelude.{◌≡◌, Bool, true, false, cond, List, [], ◌++◌, ℕ, ◌*◌, ◌≤◌, ◌<◌, length}
use Rattle.std.proofs.Common.{arith}
use Rattle.encode.specs.Padding.{rate}
use Rattle.encode.specs.Encode.{encode_string, bytepad, KMAC}
use Rattle.encode.specs.Laws.Bytes.{Bytes}
use Rattle.encode.proofs.Laws.Bytes.{append_bytes, encode_string-bytes, right_encode-bytes, bytepad_bytes, padded_bytes}
use Rattle.answers.specs.Done.{over}
use Rattle.answers.specs.Laws.{first_number-passed, over_passed}
use Rattle.calls.specs.Limits.{max_key, max_name, max_customisation, max_output}
use Rattle.calls.specs.Input.{is_shake, cshake_prefix}
use Rattle.calls.specs.Start.{Start, named, keyed, start_refusal, start_prefix, start_suffix}
use Rattle.calls.specs.Call.{Function, cSHAKE256, KMAC256, KMACXOF256, Call, start_of, message_of, output_bytes, output_refusal, Accepted, fed, ending}
use Rattle.calls.specs.Laws.Refusal.{start_accepted, output_accepted}
use Rattle.calls.proofs.Laws.Fed.{fed_parts}

-- the name or key and the customisation of a start are bytes
abbrev pub StartBytes : Start → Type 0
StartBytes (named N S) = Bytes N × Bytes S
StartBytes (keyed K S) = Bytes K × Bytes S

cshake_prefix-bytes : (N S : List ℕ) → length N ≤ max_name → length S ≤ max_customisation → Bytes N → Bytes S → Bytes (cshake_prefix N S)
cshake_prefix-bytes N S n s p q = go (is_shake N S)
  where
    go : (t : Bool) → Bytes (cond t [] (bytepad (encode_string N ++ encode_string S) rate))
    go true = tt
    go false =
        bytepad_bytes (encode_string N ++ encode_string S) rate (omega arith)
        (append_bytes (encode_string N) (encode_string S) (encode_string-bytes N (omega arith) p) (encode_string-bytes S (omega arith) q))

start_prefix-bytes : (s : Start) → start_refusal s ≡ 0 → StartBytes s → Bytes (start_prefix s)
unfolding start_refusal start_prefix
start_prefix-bytes (named N S) h p =
    let a = first_number-passed (over (length N) max_name 3) _ h in
    let b = first_number-passed (over (length S) max_customisation 3) _ a.1 in
    cshake_prefix-bytes N S (over_passed (length N) max_name 2 a.0) (over_passed (length S) max_customisation 2 b.0) p.0 p.1
start_prefix-bytes (keyed K S) h p =
    let a = first_number-passed (over (length K) max_key 2) _ h in
    let k = over_passed (length K) max_key 1 a.0 in
    append_bytes (cshake_prefix KMAC S) (bytepad (encode_string K) rate)
    (cshake_prefix-bytes KMAC S (omega arith) (over_passed (length S) max_customisation 2 a.1) (omega arith) p.1)
    (bytepad_bytes (encode_string K) rate (omega arith) (encode_string-bytes K (omega arith) p.0))

start_suffix-byte : (s : Start) → start_suffix s < 256
unfolding start_suffix
start_suffix-byte (named N S) = go (is_shake N S)
  where
    go : (t : Bool) → cond t 0x1f 0x04 < 256
    go true = omega arith
    go false = omega arith
start_suffix-byte (keyed K S) = omega arith

ending_bytes : (f : Function) (n : ℕ) → output_refusal f n ≡ 0 → Bytes (ending f n)
ending_bytes cSHAKE256 n h = tt
ending_bytes KMAC256 n h =
    let most = over_passed n max_output 5 (first_number-passed (over n max_output 6) _ h).0 in
    right_encode-bytes (8 * n) (omega arith)
ending_bytes KMACXOF256 n h = right_encode-bytes 0 (omega arith)

pub fed_bytes_lem : {f : Function} (c : Call f) → Accepted c → StartBytes (start_of c) → Bytes (message_of c) → Bytes (fed c)
fed_bytes_lem {f} c h p q =
    let s = start_of c in
    rw (fed_parts c)
    (padded_bytes (start_suffix s) (start_prefix s ++ message_of c ++ ending f (output_bytes c)) (start_suffix-byte s)
    (append_bytes (start_prefix s ++ message_of c) (ending f (output_bytes c))
    (append_bytes (start_prefix s) (message_of c) (start_prefix-bytes s (start_accepted c h) p) q)
    (ending_bytes f (output_bytes c) (output_accepted c h))))
