-- Laws on cSHAKE256's input: the fed bytes fix the name, the customisation and the message.
use Rattle.std.specs.Prelude.{◌≡◌, refl, Bool, true, false, cond, List, [], ◌∷◌, ◌++◌, ℕ, suc, ◌+◌, ◌%◌, eqb, length}
use Rattle.std.proofs.Common.{◌∙◌, sym, arith, ne_eqb}
use Rattle.encode.specs.Padding.{rate, padded}
use Rattle.encode.specs.Encode.{encode_string, bytepad}
use Rattle.encode.specs.Laws.Codes.{PrefixFree, then}
use Rattle.encode.proofs.Laws.Encode.{encode_string-free, bytepad_free}
use Rattle.encode.proofs.Laws.Padding.{padded_fixes}
use Rattle.encode.proofs.Laws.Lengths.{bytepad_blocks}
use Rattle.calls.specs.Input.{Input, is_shake, cshake_prefix, fed_bytes}

is_shake-empty : (N S : List ℕ) → is_shake N S ≡ true → (N ≡ []) × (S ≡ [])
is_shake-empty [] [] e = (refl, refl)
is_shake-empty [] (x ∷ S) e = (refl, cc)
is_shake-empty (x ∷ N) S e = (cc, cc)

-- the test as code makes it, on the lengths
pub is_shake-lengths : (N S : List ℕ) → is_shake N S ≡ eqb (length N + length S) 0
is_shake-lengths [] [] = refl
is_shake-lengths [] (x ∷ S) = sym (ne_eqb (0 + suc (length S)) 0 (λ z. omega arith))
is_shake-lengths (x ∷ N) S = sym (ne_eqb (suc (length N) + length S) 0 (λ z. omega arith))

-- name and customisation
pub prefix_free : PrefixFree {A = List ℕ × List ℕ} (λ p. bytepad (encode_string p.0 ++ encode_string p.1) rate)
prefix_free =
    bytepad_free (λ p. encode_string p.0 ++ encode_string p.1) rate
    (then encode_string encode_string-free encode_string encode_string-free)

-- the prefix is whole blocks
pub cshake_prefix-blocks : (N S : List ℕ) → length (cshake_prefix N S) % rate ≡ 0
cshake_prefix-blocks N S = go (is_shake N S)
  where
    go : (t : Bool) → length (cond t [] (bytepad (encode_string N ++ encode_string S) rate)) % rate ≡ 0
    go true = refl
    go false = bytepad_blocks (encode_string N ++ encode_string S)

-- the bytes that are padded, where t says whether it is SHAKE256
abbrev unpadded : Bool → Input → List ℕ
unpadded t i = cond t [] (bytepad (encode_string i.name ++ encode_string i.customisation) rate) ++ i.message

pub fed_bytes-fixes : (i j : Input) → fed_bytes i ≡ fed_bytes j → i ≡ j
unfolding fed_bytes
fed_bytes-fixes i j e = go (is_shake i.name i.customisation) (is_shake j.name j.customisation) refl refl e
  where
    go : (s t : Bool) → is_shake i.name i.customisation ≡ s → is_shake j.name j.customisation ≡ t
        → padded (cond s 0x1f 0x04) (unpadded s i) ≡ padded (cond t 0x1f 0x04) (unpadded t j) → i ≡ j
    go true true p q e =
        let r = padded_fixes 0x1e 0x1e i.message j.message (omega arith) (omega arith) e in
        let a = is_shake-empty i.name i.customisation p in
        let b = is_shake-empty j.name j.customisation q in
        λ k. record { name = (a.0 ∙ sym b.0) k; customisation = (a.1 ∙ sym b.1) k; message = r.1 k }
    go true false p q e =
        let r : ◌≡◌ {A = ℕ} 0x1e 3 = (padded_fixes 0x1e 3 _ _ (omega arith) (omega arith) e).0 in
        absurd (omega arith)
    go false true p q e =
        let r : ◌≡◌ {A = ℕ} 3 0x1e = (padded_fixes 3 0x1e _ _ (omega arith) (omega arith) e).0 in
        absurd (omega arith)
    go false false p q e =
        let r = padded_fixes 3 3 _ _ (omega arith) (omega arith) e in
        let s = prefix_free (i.name, i.customisation) (j.name, j.customisation) i.message j.message r.1 in
        λ k. record { name = (s.0 k).0; customisation = (s.0 k).1; message = s.1 k }
