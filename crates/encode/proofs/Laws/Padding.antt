-- Laws on padding: it stands after the message, whole blocks before it stay as they are, and it fixes the suffix byte and the message.
use Rattle.std.specs.Prelude.{◌≡◌, refl, List, [], ◌∷◌, ◌++◌, ℕ, zero, suc, ◌+◌, ◌-◌, ◌%◌, ◌<◌, length, get_or, set, replicate}
use Rattle.std.proofs.Common.{◌∙◌, sym, append_assoc, zero-add, suc-add, arith, length-set, length-append, get_or-set_same, set-set, get_or-append-add}
use Rattle.std.specs.Int.Bits.{bit_xor, xor_shifted}
use Rattle.std.proofs.lemmas.Nat.{xor_comm}
use Rattle.std.proofs.lemmas.List.{length-replicate, get_or-replicate, set-get_or}
use Rattle.encode.specs.Padding.{rate, shortfall, pad_to, with_last_bit, padded, padding}
use Rattle.encode.specs.Laws.Codes.{cut_end}

-- Where the padding stands

set_append_right : (a l : List ℕ) (k v : ℕ) → set (a ++ l) (length a + k) v ≡ a ++ set l k v
set_append_right [] l k v = rw zero-add
set_append_right (x ∷ a) l k v = rw (suc-add, set_append_right a l k v)

-- the last bit is in the last list that has a byte
with_last_bit-append : (a l : List ℕ) → 0 < length l → with_last_bit (a ++ l) ≡ a ++ with_last_bit l
unfolding with_last_bit
with_last_bit-append a l h =
    let k : length (a ++ l) - 1 ≡ length a + (length l - 1) = rw length-append (omega arith) in
    rw (k, get_or-append-add a l (length l - 1) 0) (set_append_right a l (length l - 1) _)

-- the padded bytes are the message, and then the padding of what is free in its last block
pub padded_split : (s : ℕ) (m : List ℕ) → padded s m ≡ m ++ padding s (rate - length m % rate)
unfolding padded pad_to padding
padded_split s m =
    let q : shortfall rate (length (m ++ (s ∷ []))) ≡ rate - length m % rate - 1 = rw length-append (omega arith) in
    rw (q, append_assoc) (with_last_bit-append m (s ∷ replicate (rate - length m % rate - 1) 0) (omega arith))

-- whole blocks before the message stay as they are
pub padded_after : (s : ℕ) (a m : List ℕ) → length a % rate ≡ 0 → padded s (a ++ m) ≡ a ++ padded s m
padded_after s a m h =
    let q : rate - length (a ++ m) % rate ≡ rate - length m % rate = rw length-append (omega arith) in
    padded_split s (a ++ m) ∙ rw (q, append_assoc, ← padded_split s m)

-- the padding with its length written out
pub padding_set : (s q : ℕ) → padding s q ≡ set (s ∷ replicate (q - 1) 0) (q - 1) (bit_xor (get_or (s ∷ replicate (q - 1) 0) (q - 1) 0) 0x80)
unfolding padding with_last_bit
padding_set s q =
    let k : length (s ∷ replicate (q - 1) 0) - 1 ≡ q - 1 = omega (arith, length-replicate {A = ℕ} (q - 1) 0) in
    rw k

pub length_padding : (s q : ℕ) → 0 < q → length (padding s q) ≡ q
length_padding s q h = rw padding_set (simp (length-set, length-replicate {A = ℕ}) (omega arith))

-- What the padding fixes: the last bit and the zeros are taken off again

-- a list without the zeros at its end
keep_unless_zero : List ℕ → ℕ → List ℕ
keep_unless_zero [] zero = []
keep_unless_zero [] (suc x) = suc x ∷ []
keep_unless_zero (y ∷ ys) x = x ∷ y ∷ ys

without_zeros : List ℕ → List ℕ
without_zeros [] = []
without_zeros (x ∷ xs) = keep_unless_zero (without_zeros xs) x

without_zeros-zeros : (q : ℕ) → without_zeros (replicate q 0) ≡ []
unfolding without_zeros keep_unless_zero
without_zeros-zeros zero = refl
without_zeros-zeros (suc q) = rw (without_zeros-zeros q)

keep_snoc : (m : List ℕ) (s x : ℕ) → keep_unless_zero (m ++ (s ∷ [])) x ≡ x ∷ m ++ (s ∷ [])
unfolding keep_unless_zero
keep_snoc [] s x = refl
keep_snoc (y ∷ m) s x = refl

without_zeros-of : (m : List ℕ) (s q : ℕ) → without_zeros (m ++ (suc s ∷ replicate q 0)) ≡ m ++ (suc s ∷ [])
unfolding without_zeros keep_unless_zero
without_zeros-of [] s q = rw (without_zeros-zeros q)
without_zeros-of (x ∷ m) s q = rw (without_zeros-of m s q) (keep_snoc m (suc s) x)

-- the list with 80 taken from its last byte
without_last_bit : List ℕ → List ℕ
without_last_bit l = set l (length l - 1) (get_or l (length l - 1) 0 - 0x80)

xor_top : (x : ℕ) → x < 0x80 → bit_xor x 0x80 ≡ 0x80 + x
xor_top x h = xor_comm x 0x80 ∙ xor_shifted 1 7 x h

without_last_bit-of : (l : List ℕ) → 0 < length l → get_or l (length l - 1) 0 < 0x80 → without_last_bit (with_last_bit l) ≡ l
unfolding without_last_bit with_last_bit
without_last_bit-of l h small =
    let k : ℕ = length l - 1 in
    let v : ℕ = get_or l k 0 in
    let back : bit_xor v 0x80 - 0x80 ≡ v = rw (xor_top v small) (omega arith) in
    simp (length-set, set-set, get_or-set_same l k (bit_xor v 0x80) 0 (omega arith), back) (set-get_or l k 0)

last_small : (s q : ℕ) → suc s < 0x80 → get_or (suc s ∷ replicate q 0) q 0 < 0x80
last_small s zero h = h
last_small s (suc q) h = rw (get_or-replicate {A = ℕ} (suc q) q 0 0 (omega arith)) (omega arith)

unpad : (m : List ℕ) (s q : ℕ) → suc s < 0x80 → without_zeros (without_last_bit (with_last_bit (m ++ (suc s ∷ replicate q 0)))) ≡ m ++ (suc s ∷ [])
unpad m s q h =
    let l : List ℕ = m ++ (suc s ∷ replicate q 0) in
    let n : length l ≡ length m + suc q = length-append m (suc s ∷ replicate q 0) ∙ rw (length-replicate {A = ℕ} q 0) in
    let k : length l - 1 ≡ length m + q = omega arith in
    rw (without_last_bit-of l (omega arith) (rw (k, get_or-append-add m (suc s ∷ replicate q 0) q 0) (last_small s q h))) (without_zeros-of m s q)

unpadded : (s : ℕ) (m : List ℕ) → suc s < 0x80 → without_zeros (without_last_bit (padded (suc s) m)) ≡ m ++ (suc s ∷ [])
unfolding padded pad_to
unpadded s m h = rw append_assoc (unpad m s (shortfall rate (length (m ++ (suc s ∷ [])))) h)

-- a suffix byte that is not 0 and leaves the top bit free, and the message, can be read off the padded bytes
pub padded_fixes : (s t : ℕ) (m n : List ℕ) → suc s < 0x80 → suc t < 0x80 → padded (suc s) m ≡ padded (suc t) n → (s ≡ t) × (m ≡ n)
padded_fixes s t m n hs ht e =
    let both : m ++ (suc s ∷ []) ≡ n ++ (suc t ∷ []) = sym (unpadded s m hs) ∙ rw e (unpadded t n ht) in
    let r = cut_end m n (suc s ∷ []) (suc t ∷ []) refl both in
    let h : ◌≡◌ {A = List ℕ} (suc s ∷ []) (suc t ∷ []) = r.1 in
    (cc, r.0)
