-- Bytes put into the lanes by exclusive or, in any order, one after the other, and zeros; and bytes of the lanes in pieces.
use Rattle.std.specs.Prelude.{◌≡◌, refl, List, [], ◌∷◌, ◌++◌, ℕ, zero, suc, ◌+◌, ◌*◌, ◌/◌, ◌%◌, ◌^◌, ◌<◌, length, get_or, set, replicate}
use Rattle.std.proofs.Common.{sym, ap, ◌∙◌, add-zero, zero-add, suc-add, zero-mul, arith}
use Rattle.std.specs.Int.Bits.{bit_xor, xor_zero_r}
use Rattle.std.proofs.lemmas.List.{set-get_or}
use Rattle.fips202.specs.Bytes.{xor_byte, xor_bytes, byte_at, bytes_at}
use Rattle.fips202.specs.Laws.Xor.{xor_assoc, xor_scale, xor_swap}

-- ---- a lane changed twice

module _ (f g : ℕ → ℕ) where
  pub upd_upd : (a : List ℕ) (i : ℕ) → set (set a i (f (get_or a i 0))) i (g (get_or (set a i (f (get_or a i 0))) i 0)) ≡ set a i (g (f (get_or a i 0)))
  upd_upd [] i = refl
  upd_upd (x ∷ a) zero = refl
  upd_upd (x ∷ a) (suc i) = ap (λ (r : List ℕ). x ∷ r) (upd_upd a i)

-- ---- bytes put in

pub xor_byte-zero : (a : List ℕ) (p : ℕ) → xor_byte a p 0 ≡ a
unfolding xor_byte
xor_byte-zero a p = rw (zero-mul, xor_zero_r, set-get_or)

pub xor_byte-twice : (a : List ℕ) (p b v : ℕ) → xor_byte (xor_byte a p b) p v ≡ xor_byte a p (bit_xor b v)
unfolding xor_byte
xor_byte-twice a p b v =
    upd_upd (λ x. bit_xor x (b * 2 ^ (8 * (p % 8)))) (λ x. bit_xor x (v * 2 ^ (8 * (p % 8)))) a (p / 8)
    ∙ ap (set a (p / 8)) (xor_assoc (get_or a (p / 8) 0) _ _ ∙ ap (bit_xor (get_or a (p / 8) 0)) (xor_scale b v (8 * (p % 8))))

abbrev xor_lane : List ℕ → ℕ → ℕ → List ℕ
xor_lane a i x = set a i (bit_xor (get_or a i 0) x)

xor_lane-comm : (a : List ℕ) (i j x y : ℕ) → xor_lane (xor_lane a i x) j y ≡ xor_lane (xor_lane a j y) i x
xor_lane-comm [] i j x y = refl
xor_lane-comm (v ∷ a) zero zero x y = ap (λ (r : ℕ). r ∷ a) (xor_swap v x y)
xor_lane-comm (v ∷ a) zero (suc j) x y = refl
xor_lane-comm (v ∷ a) (suc i) zero x y = refl
xor_lane-comm (v ∷ a) (suc i) (suc j) x y = ap (λ (r : List ℕ). v ∷ r) (xor_lane-comm a i j x y)

pub xor_byte-comm : (a : List ℕ) (p x q y : ℕ) → xor_byte (xor_byte a p x) q y ≡ xor_byte (xor_byte a q y) p x
unfolding xor_byte
xor_byte-comm a p x q y = xor_lane-comm a (p / 8) (q / 8) (x * 2 ^ (8 * (p % 8))) (y * 2 ^ (8 * (q % 8)))

pub xor_bytes-comm : (bs a : List ℕ) (p q v : ℕ) → xor_bytes (xor_byte a q v) p bs ≡ xor_byte (xor_bytes a p bs) q v
unfolding xor_bytes
xor_bytes-comm [] a p q v = refl
xor_bytes-comm (b ∷ bs) a p q v = ap (λ (r : List ℕ). xor_bytes r (p + 1) bs) (xor_byte-comm a q v p b) ∙ xor_bytes-comm bs (xor_byte a p b) (p + 1) q v

pub xor_bytes-append : (xs ys a : List ℕ) (p : ℕ) → xor_bytes a p (xs ++ ys) ≡ xor_bytes (xor_bytes a p xs) (p + length xs) ys
unfolding xor_bytes
xor_bytes-append [] ys a p = rw add-zero
xor_bytes-append (x ∷ xs) ys a p =
    xor_bytes-append xs ys (xor_byte a p x) (p + 1) ∙ ap (λ (k : ℕ). xor_bytes (xor_bytes (xor_byte a p x) (p + 1) xs) k ys) (omega arith)

-- a byte changed by exclusive or before it is put in, or after
pub xor_bytes-set : (l a : List ℕ) (p i v : ℕ) → i < length l → xor_bytes a p (set l i (bit_xor (get_or l i 0) v)) ≡ xor_byte (xor_bytes a p l) (p + i) v
unfolding xor_bytes
xor_bytes-set [] a p i v h = absurd (omega arith)
xor_bytes-set (b ∷ bs) a p zero v h =
    ap (λ (r : List ℕ). xor_bytes r (p + 1) bs) (sym (xor_byte-twice a p b v))
    ∙ xor_bytes-comm bs (xor_byte a p b) (p + 1) p v
    ∙ ap (λ (k : ℕ). xor_byte (xor_bytes (xor_byte a p b) (p + 1) bs) k v) (sym (add-zero p))
xor_bytes-set (b ∷ bs) a p (suc i) v h =
    xor_bytes-set bs (xor_byte a p b) (p + 1) i v (omega arith)
    ∙ ap (λ (k : ℕ). xor_byte (xor_bytes (xor_byte a p b) (p + 1) bs) k v) (omega arith)

pub xor_bytes-zeros : (n : ℕ) (a : List ℕ) (p : ℕ) → xor_bytes a p (replicate n 0) ≡ a
unfolding xor_bytes
xor_bytes-zeros zero a p = refl
xor_bytes-zeros (suc n) a p = ap (λ (r : List ℕ). xor_bytes r (p + 1) (replicate n 0)) (xor_byte-zero a p) ∙ xor_bytes-zeros n a (p + 1)

-- ---- bytes of lanes, in pieces

pub bytes_at-append : (n m : ℕ) (a : List ℕ) (p : ℕ) → bytes_at a p (n + m) ≡ bytes_at a p n ++ bytes_at a (p + n) m
unfolding bytes_at
bytes_at-append zero m a p = rw (zero-add, add-zero)
bytes_at-append (suc n) m a p =
    ap (bytes_at a p) (suc-add n m)
    ∙ ap (λ (r : List ℕ). byte_at a p ∷ r) (bytes_at-append n m a (p + 1) ∙ ap (λ (k : ℕ). bytes_at a (p + 1) n ++ bytes_at a k m) (omega arith))

pub length_bytes_at : (n : ℕ) (a : List ℕ) (p : ℕ) → length (bytes_at a p n) ≡ n
unfolding bytes_at
length_bytes_at zero a p = refl
length_bytes_at (suc n) a p = ap suc (length_bytes_at n a (p + 1))
