-- Laws of two lists of equal length: the entries that they hold, how many, the one at a place, and the lists back from the entries.
use Rattle.std.specs.Prelude.{◌≡◌, refl, List, [], ◌∷◌, ℕ, zero, suc, ◌+◌, ◌<◌, length, get_or, drop}
use Rattle.std.proofs.Common.{ap, arith, add-one, drop-cons}
use Rattle.hall_entry.specs.Entries.{entry, kinds_of, values_of}
use Rattle.hall_check.specs.Lists.{pairs}

pub length_pairs : (kinds values : List ℕ) → length kinds ≡ length values → length (pairs kinds values) ≡ length kinds
unfolding pairs
length_pairs [] values e = refl
length_pairs (k ∷ kinds) [] e = absurd (omega arith)
length_pairs (k ∷ kinds) (v ∷ values) e = ap suc (length_pairs kinds values (omega arith))

get_d_pairs : (kinds values : List ℕ) (at : ℕ) → length kinds ≡ length values → at < length kinds
    → get_or (pairs kinds values) at (entry 0 0) ≡ entry (get_or kinds at 0) (get_or values at 0)
unfolding pairs
get_d_pairs [] values at e h = absurd (omega arith)
get_d_pairs (k ∷ kinds) [] at e h = absurd (omega arith)
get_d_pairs (k ∷ kinds) (v ∷ values) zero e h = refl
get_d_pairs (k ∷ kinds) (v ∷ values) (suc at) e h = get_d_pairs kinds values at (omega arith) (omega arith)

pub drop_pairs : (kinds values : List ℕ) (at : ℕ) → length kinds ≡ length values → at < length kinds
    → drop at (pairs kinds values) ≡ entry (get_or kinds at 0) (get_or values at 0) ∷ drop (at + 1) (pairs kinds values)
drop_pairs kinds values at e h =
    let k : at < length (pairs kinds values) = omega (arith, length_pairs kinds values e) in
    rw (add-one, drop-cons (pairs kinds values) at (entry 0 0) k, get_d_pairs kinds values at e h)

pub pairs_kinds : (kinds values : List ℕ) → length kinds ≡ length values → kinds_of (pairs kinds values) ≡ kinds
unfolding pairs
pairs_kinds [] values e = refl
pairs_kinds (k ∷ kinds) [] e = absurd (omega arith)
pairs_kinds (k ∷ kinds) (v ∷ values) e = ap (λ (l : List ℕ). k ∷ l) (pairs_kinds kinds values (omega arith))

pub pairs_values : (kinds values : List ℕ) → length kinds ≡ length values → values_of (pairs kinds values) ≡ values
unfolding pairs
pairs_values [] [] e = refl
pairs_values [] (v ∷ values) e = absurd (omega arith)
pairs_values (k ∷ kinds) [] e = absurd (omega arith)
pairs_values (k ∷ kinds) (v ∷ values) e = ap (λ (l : List ℕ). v ∷ l) (pairs_values kinds values (omega arith))
