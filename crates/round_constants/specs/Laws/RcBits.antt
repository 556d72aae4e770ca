-- The table of rc, FIPS 202's algorithm 5, over its whole period: entry t is rc t. One test, which antt computes: it goes down the table with the
-- shift register beside it, so it takes 255 steps of the register.
use Rattle.std.specs.Prelude.{◌≡◌, Bool, true, List, [], ◌∷◌, ℕ, zero, suc, ◌+◌, ◌<◌, ◌%◌, T, eqb, length, get_or}
use Rattle.std.proofs.Common.{sym, ap, ◌∙◌, add-zero, zero-add, add-suc, suc-add, le_of_suc-le-suc, not-suc-le-zero, mod-lt, eqb→eq, lit<}
use Rattle.fips202.specs.Fips202.{rc, register, shifted}
use Rattle.fips202.specs.Laws.Table.{both, both_left, both_right}

-- each entry is bit 0 of the register, which takes a step from an entry to the next
abbrev follows : List ℕ → List ℕ → Bool
follows r [] = true
follows r (x ∷ xs) = both (eqb x (get_or r 0 0)) (follows (shifted r) xs)

from : (n : ℕ) (xs : List ℕ) → T (follows (register n) xs) → (k : ℕ) → k < length xs → get_or xs k 0 ≡ get_or (register (n + k)) 0 0
unfolding register
from n [] t k h = absurd (not-suc-le-zero h)
from n (x ∷ xs) t zero h =
    eqb→eq x (get_or (register n) 0 0) (both_left (eqb x (get_or (register n) 0 0)) (follows (shifted (register n)) xs) t)
    ∙ ap (λ (m : ℕ). get_or (register m) 0 0) (sym (add-zero n))
from n (x ∷ xs) t (suc k) h =
    from (suc n) xs (both_right (eqb x (get_or (register n) 0 0)) (follows (shifted (register n)) xs) t) k (le_of_suc-le-suc h)
    ∙ ap (λ (m : ℕ). get_or (register m) 0 0) (suc-add n k ∙ sym (add-suc n k))

-- the code's table, `RC`
unfoldable pub bits : List ℕ
bits =
    1 ∷ 0 ∷ 0 ∷ 0 ∷ 0 ∷ 0 ∷ 0 ∷ 0 ∷ 1 ∷ 0 ∷ 1 ∷ 1 ∷ 0 ∷ 0 ∷ 0 ∷ 1 ∷ 1 ∷ 1 ∷ 1 ∷ 0 ∷ 1 ∷ 0 ∷ 0 ∷ 0 ∷ 0 ∷ 1 ∷ 1 ∷ 1 ∷ 1 ∷ 1 ∷ 1 ∷ 1
    ∷ 1 ∷ 0 ∷ 0 ∷ 1 ∷ 0 ∷ 0 ∷ 0 ∷ 0 ∷ 1 ∷ 0 ∷ 1 ∷ 0 ∷ 0 ∷ 1 ∷ 1 ∷ 1 ∷ 1 ∷ 1 ∷ 0 ∷ 1 ∷ 0 ∷ 1 ∷ 0 ∷ 1 ∷ 0 ∷ 1 ∷ 1 ∷ 1 ∷ 0 ∷ 0 ∷ 0 ∷ 0
    ∷ 0 ∷ 1 ∷ 1 ∷ 0 ∷ 0 ∷ 0 ∷ 1 ∷ 0 ∷ 1 ∷ 0 ∷ 1 ∷ 1 ∷ 0 ∷ 0 ∷ 1 ∷ 1 ∷ 0 ∷ 0 ∷ 1 ∷ 0 ∷ 1 ∷ 1 ∷ 1 ∷ 1 ∷ 1 ∷ 1 ∷ 0 ∷ 1 ∷ 1 ∷ 1 ∷ 1 ∷ 0
    ∷ 0 ∷ 1 ∷ 1 ∷ 0 ∷ 1 ∷ 1 ∷ 1 ∷ 0 ∷ 1 ∷ 1 ∷ 1 ∷ 0 ∷ 0 ∷ 1 ∷ 0 ∷ 1 ∷ 0 ∷ 1 ∷ 0 ∷ 0 ∷ 1 ∷ 0 ∷ 1 ∷ 0 ∷ 0 ∷ 0 ∷ 1 ∷ 0 ∷ 0 ∷ 1 ∷ 0 ∷ 1
    ∷ 1 ∷ 0 ∷ 1 ∷ 0 ∷ 0 ∷ 0 ∷ 1 ∷ 1 ∷ 0 ∷ 0 ∷ 1 ∷ 1 ∷ 1 ∷ 0 ∷ 0 ∷ 1 ∷ 1 ∷ 1 ∷ 1 ∷ 0 ∷ 0 ∷ 0 ∷ 1 ∷ 1 ∷ 0 ∷ 1 ∷ 1 ∷ 0 ∷ 0 ∷ 0 ∷ 0 ∷ 1
    ∷ 0 ∷ 0 ∷ 0 ∷ 1 ∷ 0 ∷ 1 ∷ 1 ∷ 1 ∷ 0 ∷ 1 ∷ 0 ∷ 1 ∷ 1 ∷ 1 ∷ 1 ∷ 0 ∷ 1 ∷ 1 ∷ 0 ∷ 1 ∷ 1 ∷ 1 ∷ 1 ∷ 1 ∷ 0 ∷ 0 ∷ 0 ∷ 0 ∷ 1 ∷ 1 ∷ 0 ∷ 1
    ∷ 0 ∷ 0 ∷ 1 ∷ 1 ∷ 0 ∷ 1 ∷ 0 ∷ 1 ∷ 1 ∷ 0 ∷ 1 ∷ 1 ∷ 0 ∷ 1 ∷ 0 ∷ 1 ∷ 0 ∷ 0 ∷ 0 ∷ 0 ∷ 0 ∷ 1 ∷ 0 ∷ 0 ∷ 1 ∷ 1 ∷ 1 ∷ 0 ∷ 1 ∷ 1 ∷ 0 ∷ 0
    ∷ 1 ∷ 0 ∷ 0 ∷ 1 ∷ 0 ∷ 0 ∷ 1 ∷ 1 ∷ 0 ∷ 0 ∷ 0 ∷ 0 ∷ 0 ∷ 0 ∷ 1 ∷ 1 ∷ 1 ∷ 0 ∷ 1 ∷ 0 ∷ 0 ∷ 1 ∷ 0 ∷ 0 ∷ 0 ∷ 1 ∷ 1 ∷ 1 ∷ 0 ∷ 0 ∷ 0
    ∷ []

-- the table's entry for every t
unfoldable pub bit_of : ℕ → ℕ
bit_of t = get_or bits (t % 255) 0

pub bits_are : (t : ℕ) → bit_of t ≡ rc t
unfolding bit_of bits rc register shifted
bits_are t = from 0 bits tt (t % 255) (mod-lt t (lit< tt)) ∙ ap (λ (m : ℕ). get_or (register m) 0 0) (zero-add (t % 255))

-- numbers that agree modulo 255 have the same bit
pub rc_period : (s t : ℕ) → s % 255 ≡ t % 255 → rc s ≡ rc t
unfolding rc
rc_period s t e = ap (λ (m : ℕ). get_or (register m) 0 0) e
