-- Laws on the count: the runs of a call by the lengths of its arguments alone.
use Rattle.std.specs.Prelude.{◌≡◌, refl, Bool, true, false, cond, List, [], ◌++◌, ℕ, ◌+◌, ◌*◌, ◌/◌, eqb, length}
use Rattle.std.proofs.Common.{arith, length-append}
use Rattle.encode.specs.Digits.{width, width_in}
use Rattle.encode.specs.Encode.{encode_string, right_encode, bytepad, KMAC}
use Rattle.encode.specs.Padding.{rate, blocks}
use Rattle.encode.proofs.Laws.Lengths.{string_length, length_encode_string, length_right_encode, length_bytepad, length_padded}
use Rattle.calls.specs.Input.{cshake_prefix}
use Rattle.calls.specs.Start.{Start, named, keyed, start_prefix}
use Rattle.calls.specs.Call.{Function, cSHAKE256, KMAC256, KMACXOF256, Call, start_of, message_of, output_bytes, ending}
use Rattle.calls.specs.Count.{output_runs, runs}
use Rattle.calls.specs.Laws.Input.{is_shake-lengths}
use Rattle.calls.proofs.Laws.Fed.{fed_parts}

-- the blocks of the bytes before cSHAKE256's message, for a name and a customisation of these lengths
abbrev pub cshake_blocks : ℕ → ℕ → ℕ
cshake_blocks n s = cond (eqb (n + s) 0) 0 (blocks (string_length n + string_length s + 2))

-- the blocks of the bytes before the message
abbrev pub start_blocks : Start → ℕ
start_blocks (named N S) = cshake_blocks (length N) (length S)
start_blocks (keyed K S) = cshake_blocks 4 (length S) + blocks (string_length (length K) + 2)

length_cshake_prefix : (N S : List ℕ) → length (cshake_prefix N S) ≡ cshake_blocks (length N) (length S) * rate
length_cshake_prefix N S = rw is_shake-lengths (go (eqb (length N + length S) 0))
  where
    go : (t : Bool)
        → length (cond t [] (bytepad (encode_string N ++ encode_string S) rate))
        ≡ cond t 0 (blocks (string_length (length N) + string_length (length S) + 2)) * rate
    go true = refl
    go false = simp (length_bytepad, length-append, length_encode_string)

pub length_start_prefix : (s : Start) → length (start_prefix s) ≡ start_blocks s * rate
unfolding start_prefix
length_start_prefix (named N S) = length_cshake_prefix N S
length_start_prefix (keyed K S) =
    rw (length-append, length_cshake_prefix KMAC S, length_bytepad, length_encode_string) (omega arith)

-- the length of the bytes after the message, for an output of n bytes
abbrev pub ending_length : Function → ℕ → ℕ
ending_length cSHAKE256 n = 0
ending_length KMAC256 n = width 256 (8 * n) + 1
ending_length KMACXOF256 n = 2

pub length_ending : (f : Function) (n : ℕ) → length (ending f n) ≡ ending_length f n
unfolding right_encode width_in
length_ending cSHAKE256 n = refl
length_ending KMAC256 n = length_right_encode (8 * n)
length_ending KMACXOF256 n = length_right_encode 0

pub runs_by_lengths : {f : Function} (c : Call f)
    → runs c ≡ start_blocks (start_of c) + (length (message_of c) + ending_length f (output_bytes c)) / rate + 1 + output_runs (output_bytes c)
unfolding runs
runs_by_lengths {f} c =
    rw (fed_parts c, length_padded)
    (simp (length-append, length_start_prefix, length_ending) (omega arith))
