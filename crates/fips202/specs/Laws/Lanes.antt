-- Lists of lanes as tables, a table being `table_from n i f`: their entries, their bounds, and a list written out as one.
use Rattle.std.specs.Prelude.{◌≡◌, refl, List, [], ◌∷◌, ℕ, zero, suc, ◌+◌, ◌^◌, ◌<◌, length, get_or}
use Rattle.std.proofs.Common.{sym, ap, ap₂, ◌∙◌, suc-le-suc, zero-le, add-zero, zero-add, add-suc, suc-add, le_of_suc-le-suc, not-suc-le-zero, lit<, Fits}
use Rattle.std.specs.Int.{w64}
use Rattle.fips202.specs.Fips202.{table_from}

-- ---- tables

pub same_table : (n i : ℕ) (f g : ℕ → ℕ) → ((k : ℕ) → f k ≡ g k) → table_from n i f ≡ table_from n i g
same_table zero i f g h = refl
same_table (suc n) i f g h = ap₂ {C = List ℕ} (λ y ys. y ∷ ys) (h i) (same_table n (suc i) f g h)

pub table_at : (n i k : ℕ) (f : ℕ → ℕ) → k < n → get_or (table_from n i f) k 0 ≡ f (i + k)
table_at zero i k f h = absurd (not-suc-le-zero h)
table_at (suc n) i zero f h = ap f (sym (add-zero i))
table_at (suc n) i (suc k) f h = table_at n (suc i) k f (le_of_suc-le-suc h) ∙ ap f (suc-add i k ∙ sym (add-suc i k))

-- ---- bounds

-- each element is a lane of 64 bits
abbrev pub Bounded : List ℕ → Type 0
Bounded a = (k : ℕ) → get_or a k 0 < 2 ^ 64

pub table_bounded : (n i : ℕ) (f : ℕ → ℕ) → ((k : ℕ) → f k < 2 ^ 64) → Bounded (table_from n i f)
table_bounded zero i f h k = lit< tt
table_bounded (suc n) i f h zero = h i
table_bounded (suc n) i f h (suc k) = table_bounded n (suc i) f h k

-- as `search needs` finds it of an array
pub fitting : (a : List ℕ) → ((k : ℕ) → Fits w64 (get_or a k 0)) → Bounded a
fitting a h k = (h k).fits

-- ---- a list of n elements is its n elements; a store into a list that is written out computes, and so does a read of it

from : (xs : List ℕ) (f : ℕ → ℕ) (i : ℕ) → ((k : ℕ) → k < length xs → get_or xs k 0 ≡ f (i + k)) → xs ≡ table_from (length xs) i f
from [] f i h = refl
from (x ∷ xs) f i h =
    ap₂ {C = List ℕ} (λ y ys. y ∷ ys) (h 0 (suc-le-suc zero-le) ∙ ap f (add-zero i))
    (from xs f (suc i) (λ k l. h (suc k) (suc-le-suc l) ∙ ap f (add-suc i k ∙ sym (suc-add i k))))

pub written_out : {n : ℕ} (xs : List ℕ) → length xs ≡ n → xs ≡ table_from n 0 (λ k. get_or xs k 0)
written_out xs e =
    from xs (λ k. get_or xs k 0) 0 (λ k l. ap (λ (m : ℕ). get_or xs m 0) (sym (zero-add k)))
    ∙ ap (λ (n : ℕ). table_from n 0 (λ k. get_or xs k 0)) e
