-- Laws on the encodings: each can be told from what stands around it, so it fixes what it encodes. They hold of all numbers and lists.
use Rattle.std.specs.Prelude.{◌≡◌, List, ◌++◌, reverse, ℕ, ◌*◌, length, replicate}
use Rattle.std.proofs.Common.{◌∙◌, sym, append_assoc, arith}
use Rattle.std.proofs.lemmas.List.{reverse-reverse}
use Rattle.encode.specs.Digits.{number_of}
use Rattle.encode.specs.Padding.{shortfall, pad_to}
use Rattle.encode.specs.Encode.{big_endian, length_prefixed, left_encode, right_encode, encode_string, bytepad}
use Rattle.encode.specs.Laws.Digits.{number_of-width}
use Rattle.encode.specs.Laws.Codes.{PrefixFree, SuffixFree, cut, length_prefixed-free, length_suffixed-free, last_suffixed, last_suffixed-of}
use Rattle.encode.specs.Laws.Codes.{through, after, followed}

pub number_of-big_endian : (n : ℕ) → number_of 256 (reverse (big_endian n)) ≡ n
unfolding big_endian
number_of-big_endian n = simp reverse-reverse (number_of-width 256 (omega arith) n)

big_endian-fixes : (a b : ℕ) → big_endian a ≡ big_endian b → a ≡ b
big_endian-fixes a b e = sym (number_of-big_endian a) ∙ rw e (number_of-big_endian b)

pub left_encode-free : PrefixFree left_encode
unfolding left_encode
left_encode-free = through length_prefixed length_prefixed-free big_endian big_endian-fixes

pub right_encode-free : SuffixFree right_encode
unfolding right_encode
right_encode-free a b x y e =
    let r = length_suffixed-free (big_endian a) (big_endian b) x y e in
    (big_endian-fixes a b r.0, r.1)

-- the number whose right_encode ends the bytes
pub last_encoded : List ℕ → ℕ
last_encoded m = number_of 256 (reverse (last_suffixed m))

pub last_encoded-of : (x : List ℕ) (n : ℕ) → last_encoded (x ++ right_encode n) ≡ n
unfolding last_encoded right_encode
last_encoded-of x n = rw (last_suffixed-of x (big_endian n)) (number_of-big_endian n)

pub encode_string-free : PrefixFree encode_string
unfolding encode_string
encode_string-free a b x y e =
    let r = left_encode-free (8 * length a) (8 * length b) (a ++ x) (b ++ y) (simp append_assoc at e) in
    cut a b x y (omega (arith, r.0)) r.1

-- the zeros of bytepad are as many as what they follow says
pub bytepad_free : {A : Type 0} (f : A → List ℕ) (w : ℕ) → PrefixFree f → PrefixFree (λ a. bytepad (f a) w)
unfolding bytepad pad_to
bytepad_free f w free =
    followed (λ a. left_encode w ++ f a) (after f free (left_encode w)) (λ a. replicate (shortfall w (length (left_encode w ++ f a))) 0)
