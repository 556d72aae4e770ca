-- Laws on lengths: of the encodings, of bytepad and of padded bytes, in blocks; and the whole blocks of a list from a place on.
use Rattle.std.specs.Prelude.{◌≡◌, List, ◌++◌, ℕ, suc, ◌+◌, ◌*◌, ◌/◌, ◌%◌, ◌≤◌, ◌<◌, length}
use Rattle.std.proofs.Common.{◌∙◌, arith, length-append, length-set}
use Rattle.std.proofs.lemmas.List.{length-replicate, length-reverse}
use Rattle.encode.specs.Digits.{digits, width_in, width}
use Rattle.encode.specs.Padding.{rate, blocks, whole_blocks, pad_to, with_last_bit, padded}
use Rattle.encode.specs.Encode.{big_endian, left_encode, right_encode, encode_string, bytepad}
use Rattle.encode.specs.Laws.Digits.{length_digits}

pub length_big_endian : (n : ℕ) → length (big_endian n) ≡ width 256 n
unfolding big_endian
length_big_endian n = length-reverse (digits 256 (width 256 n) n) ∙ length_digits 256 (width 256 n) n

pub length_left_encode : (n : ℕ) → length (left_encode n) ≡ width 256 n + 1
unfolding left_encode
length_left_encode n = omega (arith, length_big_endian n)

pub length_right_encode : (n : ℕ) → length (right_encode n) ≡ width 256 n + 1
unfolding right_encode
length_right_encode n = rw (length-append, length_big_endian n)

-- the length of encode_string of n bytes
abbrev pub string_length : ℕ → ℕ
string_length n = width 256 (8 * n) + 1 + n

pub length_encode_string : (s : List ℕ) → length (encode_string s) ≡ string_length (length s)
unfolding encode_string
length_encode_string s = rw (length-append, length_left_encode (8 * length s))

pub length_pad_to : (l : List ℕ) → length (pad_to rate l) ≡ blocks (length l) * rate
unfolding pad_to
length_pad_to l = rw (length-append, length-replicate {A = ℕ}) (omega arith)

pub length_bytepad : (x : List ℕ) → length (bytepad x rate) ≡ blocks (length x + 2) * rate
unfolding bytepad left_encode big_endian width_in
length_bytepad x = length_pad_to (left_encode rate ++ x) ∙ omega arith

pub bytepad_blocks : (x : List ℕ) → length (bytepad x rate) % rate ≡ 0
bytepad_blocks x = rw length_bytepad (omega arith)

pub length_padded : (s : ℕ) (m : List ℕ) → length (padded s m) ≡ (length m / rate + 1) * rate
unfolding padded with_last_bit
length_padded s m = simp (length-set, length_pad_to, length-append) (omega arith)

-- ---- the whole blocks of a list from a place on

module _ (s : List ℕ) (at : ℕ) where
  pub one_block_fewer : at + rate ≤ length s → whole_blocks s at ≡ suc (whole_blocks s (at + rate))
  one_block_fewer h = omega arith

  pub same_end : at + rate ≤ length s → at + rate + whole_blocks s (at + rate) * rate ≡ at + whole_blocks s at * rate
  same_end h = omega arith

  pub no_whole_block : length s < at + rate → whole_blocks s at ≡ 0
  no_whole_block h = omega arith
