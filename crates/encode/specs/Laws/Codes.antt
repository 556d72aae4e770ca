-- Laws on codes that can be told from what follows them (prefix-free) or from what stands before them (suffix-free), and the ways to build one from others.
use Rattle.std.specs.Prelude.{◌≡◌, refl, List, [], ◌∷◌, ◌++◌, ℕ, suc, ◌+◌, ◌-◌, length, get_or, take, drop}
use Rattle.std.proofs.Common.{ap, ◌∙◌, sym, append_assoc, arith, length-append, take_at, drop_at, get_or-append-add}
use Rattle.std.proofs.lemmas.List.{append_cancel_left, append_cancel_right}
use Rattle.std.proofs.Math.Seq.{take-append_seam, drop-append_seam, get_or-append_seam}
use Rattle.encode.specs.Encode.{length_prefixed, length_suffixed}

module _ {A : Type 0} where
  abbrev pub PrefixFree : (A → List ℕ) → Type 0
  PrefixFree f = (a b : A) (x y : List ℕ) → f a ++ x ≡ f b ++ y → (a ≡ b) × (x ≡ y)

  abbrev pub SuffixFree : (A → List ℕ) → Type 0
  SuffixFree f = (a b : A) (x y : List ℕ) → x ++ f a ≡ y ++ f b → (a ≡ b) × (x ≡ y)

-- equal lists, cut at the same place
pub cut : (a b x y : List ℕ) → length a ≡ length b → a ++ x ≡ b ++ y → (a ≡ b) × (x ≡ y)
cut a b x y n e =
    (sym (take_at a x (length b) n) ∙ rw e (take_at b y (length b) refl), sym (drop_at a x (length b) n) ∙ rw e (drop_at b y (length b) refl))

-- the same, the place counted from the end
pub cut_end : (x y a b : List ℕ) → length a ≡ length b → x ++ a ≡ y ++ b → (x ≡ y) × (a ≡ b)
cut_end x y a b n e =
    let both : length x + length a ≡ length y + length b = simp length-append at (ap length e) in
    cut x y a b (omega arith) e

pub length_prefixed-free : PrefixFree length_prefixed
length_prefixed-free a b x y e =
    let n : length a ≡ length b = cc in
    let r : a ++ x ≡ b ++ y = cc in
    cut a b x y n r

-- the bytes before the length that ends the list
pub last_suffixed : List ℕ → List ℕ
last_suffixed m = let w : ℕ = get_or m (length m - 1) 0 in take w (drop (length m - suc w) m)

pub last_suffixed-of : (x a : List ℕ) → last_suffixed (x ++ length_suffixed a) ≡ a
unfolding last_suffixed
last_suffixed-of x a =
    let m : List ℕ = x ++ length_suffixed a in
    let n : length m ≡ length x + (length a + 1) = simp length-append in
    let k : length m - 1 ≡ length x + length a = omega arith in
    let w : get_or m (length m - 1) 0 ≡ length a =
    rw (k, get_or-append-add x (length_suffixed a) (length a) 0) (get_or-append_seam a (length a) [] 0)
    in
    let s : length m - suc (length a) ≡ length x = omega arith in
    rw (w, s, drop-append_seam x (length_suffixed a)) (take-append_seam a (length a ∷ []))

pub length_suffixed-free : SuffixFree length_suffixed
length_suffixed-free a b x y e =
    let q : a ≡ b = sym (last_suffixed-of x a) ∙ rw e (last_suffixed-of y b) in
    (q, append_cancel_right x y (length_suffixed a) (e ∙ rw q))

module _ {A : Type 0} (f : A → List ℕ) (free : PrefixFree f) where
  -- the code of a value, by what fixes the value
  pub through : {B : Type 0} (g : B → A) → ((a b : B) → g a ≡ g b → a ≡ b) → PrefixFree (λ b. f (g b))
  through g inj a b x y e =
      let r = free (g a) (g b) x y e in
      (inj a b r.0, r.1)

  -- a constant before it
  pub after : (c : List ℕ) → PrefixFree (λ a. c ++ f a)
  after c a b x y e = free a b x y (append_cancel_left c (f a ++ x) (f b ++ y) (simp append_assoc at e))

  -- bytes that the value fixes, after it
  pub followed : (g : A → List ℕ) → PrefixFree (λ a. f a ++ g a)
  followed g a b x y e =
      let r = free a b (g a ++ x) (g b ++ y) (simp append_assoc at e) in
      (r.0, append_cancel_left (g a) x y (r.1 ∙ rw r.0))

  -- another code after it
  pub then : {B : Type 0} (g : B → List ℕ) → PrefixFree g → PrefixFree {A = A × B} (λ p. f p.0 ++ g p.1)
  then g free' a b x y e =
      let r = free a.0 b.0 (g a.1 ++ x) (g b.1 ++ y) (simp append_assoc at e) in
      let s = free' a.1 b.1 x y r.1 in
      (λ i. (r.0 i, s.0 i), s.1)
