-- The width of a number by its logarithm, its lowest bytes among the eight of `to_be_bytes`, and the nine bytes of an answer.
use Rattle.std.specs.Prelude.{◌≡◌, refl, List, [], ◌∷◌, ◌++◌, reverse, ℕ, zero, suc, ◌+◌, ◌*◌, ◌-◌, ◌/◌, ◌%◌, ◌^◌, ◌≤◌, ◌<◌}
use Rattle.std.specs.Prelude.{max, length, take, drop, set, replicate}
use Rattle.std.proofs.Common.{ap, ◌∙◌, sym, arith, zero-add, suc-add, append_assoc, length-append}
use Rattle.std.proofs.Math.Nat.{pow-le-pow_right, one-le-pow, div-div-eq-div-mul, pow-succ'}
use native.Mathlib.Nat.{sub-zero, zero-sub, suc-sub-suc}
use lib.ListN.{length-replicate}
use lib.Seq.{set_at}
use mathlib.Core.List.{reverse-cons}
use Rattle.std.proofs.lemmas.List.{take_all}
use Rattle.std.specs.Int.{byte_at, bytes_high_first}
use Rattle.encode.specs.declared.Encoded.{Encoded}
use Rattle.encode.specs.Digits.{digits, width}
use Rattle.encode.specs.Answer.{encoded, Answers}
use Rattle.encode.specs.Private.{PlacedAt}
use Rattle.encode.proofs.Laws.Lengths.{length_big_endian}
use Rattle.encode.specs.Encode.{big_endian, left_encode, right_encode}
use Rattle.encode.specs.Laws.Digits.{width_holds, width_pos, width_fewest}

one_more : (r : ℕ) → 256 ^ suc r ≡ 256 * 256 ^ r
one_more r = pow-succ' 256 r

at_least : (n r w : ℕ) → 0 < w → n < 256 ^ w → 256 ^ r ≤ max n 1 → r < w
at_least n zero w p h low = p
at_least n (suc r) w p h low =
    let big : 256 ^ suc r ≤ n = omega (arith, one_more r, one-le-pow r 256 (omega arith)) in
    let more : w ≤ suc r → 256 ^ w ≤ 256 ^ suc r = λ less. pow-le-pow_right {n = 256} (omega arith) less in
    grind (arith, more)

-- one more than the logarithm to the base 256
pub width_is : (n r : ℕ) → 256 ^ r ≤ max n 1 → max n 1 < 256 * 256 ^ r → r + 1 ≡ width 256 n
width_is n r low high =
    let k : ℕ = suc r in
    let top : n < 256 ^ k = rw (one_more r) (omega arith) in
    let most : width 256 n ≤ suc r = width_fewest 256 (omega arith) n n (suc r) (omega arith) top in
    let least : r < width 256 n = at_least n r (width 256 n) (width_pos 256 (omega arith) n n) (width_holds 256 (omega arith) n n (omega arith)) low in
    omega arith

pub width_in_eight : (n : ℕ) → n < 2 ^ 64 → width 256 n ≤ 8
width_in_eight n h = width_fewest 256 (omega arith) n n 8 (omega arith) h

upper : (k n : ℕ) → byte_at (suc k) n ≡ byte_at k (n / 256)
upper zero n = refl
upper (suc k) n = ap (λ (x : ℕ). x % 256) (ap (λ (x : ℕ). n / x) (one_more (suc k)) ∙ sym (div-div-eq-div-mul n 256 (256 ^ suc k)))

last_byte : (k n : ℕ) → bytes_high_first (suc k) n ≡ bytes_high_first k (n / 256) ++ (n % 256 ∷ [])
last_byte zero n = refl
last_byte (suc k) n = rw (upper k n) (ap (λ (l : List ℕ). byte_at k (n / 256) ∷ l) (last_byte k n))

pub digits_reversed : (k n : ℕ) → reverse (digits 256 k n) ≡ bytes_high_first k n
digits_reversed zero n = refl
digits_reversed (suc k) n =
    reverse-cons (n % 256) (digits 256 k (n / 256)) ∙ ap (λ (l : List ℕ). l ++ (n % 256 ∷ [])) (digits_reversed k (n / 256)) ∙ sym (last_byte k n)

pub lowest : (j w n : ℕ) → drop j (bytes_high_first (j + w) n) ≡ bytes_high_first w n
lowest zero w n = rw zero-add
lowest (suc j) w n = rw suc-add (lowest j w n)

-- so the last w of the eight bytes are the code, where w is the width
pub last_bytes : (w n : ℕ) → w ≡ width 256 n → w ≤ 8 → drop (8 - w) (bytes_high_first 8 n) ≡ big_endian n
unfolding big_endian
last_bytes w n is h =
    let e : 8 - w + w ≡ 8 = omega arith in
    rw e at (lowest (8 - w) w n) ∙ sym (digits_reversed w n) ∙ ap (λ (k : ℕ). reverse (digits 256 k n)) is

drop_replicate : (k n a : ℕ) → drop k (replicate n a) ≡ replicate (n - k) a
drop_replicate zero n a = rw sub-zero
drop_replicate (suc k) zero a = rw zero-sub
drop_replicate (suc k) (suc n) a = rw suc-sub-suc (drop_replicate k n a)

abbrev nine : List ℕ
nine = replicate 9 0

take_zeros : (at : ℕ) → at ≤ 1 → take at nine ≡ replicate at 0
take_zeros zero h = refl
take_zeros (suc zero) h = refl
take_zeros (suc (suc at)) h = absurd (omega arith)

pub placed_at : (at n w : ℕ) (new : List ℕ) → at ≤ 1 → w ≡ width 256 n → w ≤ 8 → new ≡ take (8 - (8 - w)) (drop (8 - w) (bytes_high_first 8 n))
    → PlacedAt at n (record { bytes = take {A = ℕ} at nine ++ (new ++ drop (at + w - at) (drop at nine)); len = at + w })
placed_at at n w new low is h e =
    let rest : drop (at + w - at) (drop at nine) ≡ replicate (9 - (at + w)) 0 =
    let k : 9 - at - (at + w - at) ≡ 9 - (at + w) = omega arith in
    rw (drop_replicate at 9 0, drop_replicate (at + w - at) (9 - at) 0, k)
    in
    let long : w ≡ length (big_endian n) = is ∙ sym (length_big_endian n) in
    let code : new ≡ big_endian n = e ∙ ap (take (8 - (8 - w))) (last_bytes w n is h) ∙ take_all (8 - (8 - w)) (big_endian n) (omega arith) in
    record {
      len_is = ap (λ (j : ℕ). at + j) long;
      fits = omega arith;
      bytes_are = λ i. take_zeros at low i ++ (code i ++ rest i);
    }

-- nine bytes that begin with the code and go on with zeros are the answer for it
answers : (code bytes : List ℕ) (len : ℕ) → len ≡ length code → len ≤ 9 → bytes ≡ code ++ replicate (9 - len) 0
    → Answers code (record { bytes = bytes; len = len })
unfolding encoded
answers code bytes len n s e =
    record {
      is = λ i. record { bytes = (e ∙ ap (λ (k : ℕ). code ++ replicate (9 - k) 0) n) i; len = n i };
      fits = s;
      nine = ap length e ∙ simp (length-append, length-replicate {A = ℕ}) (omega arith);
    }

pub left_answers : (n : ℕ) (r : Encoded) → PlacedAt 1 n r → Answers (left_encode n) (record { bytes = set r.bytes 0 (r.len - 1); len = r.len })
unfolding left_encode
left_answers n r p =
    let number : r.len - 1 ≡ length (big_endian n) = omega (arith, p.len_is) in
    answers (left_encode n) (set r.bytes 0 (r.len - 1)) r.len (omega (arith, p.len_is)) (omega (arith, p.len_is, p.fits))
    (ap (λ (l : List ℕ). set l 0 (r.len - 1)) p.bytes_are ∙ ap (λ (k : ℕ). k ∷ (big_endian n ++ replicate (9 - r.len) 0)) number)

pub right_answers : (n : ℕ) (r : Encoded) → PlacedAt 0 n r → Answers (right_encode n) (record { bytes = set r.bytes r.len r.len; len = r.len + 1 })
unfolding right_encode
right_answers n r p =
    let long : length (big_endian n) ≡ r.len = omega (arith, p.len_is) in
    let k : 9 - r.len ≡ suc (9 - (r.len + 1)) = omega (arith, p.fits) in
    answers (right_encode n) (set r.bytes r.len r.len) (r.len + 1) (rw length-append (omega (arith, p.len_is))) (omega (arith, p.fits))
    (ap (λ (l : List ℕ). set l r.len r.len) (p.bytes_are ∙ ap (λ (j : ℕ). big_endian n ++ replicate j 0) k)
    ∙ set_at (big_endian n) 0 (replicate (9 - (r.len + 1)) 0) r.len r.len long
    ∙ ap (λ (j : ℕ). big_endian n ++ (j ∷ replicate (9 - (r.len + 1)) 0)) (sym long)
    ∙ sym (append_assoc (big_endian n) (length (big_endian n) ∷ []) (replicate (9 - (r.len + 1)) 0)))
