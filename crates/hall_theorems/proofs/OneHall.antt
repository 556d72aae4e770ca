-- A hall's number of entries and its two lists tell it from every other.
use mathlib.Core.Path.{◌≡◌, refl, sym, ap, ◌∙◌}
use mathlib.Core.List.{List, [], ◌++◌, append_assoc}
use native.Mathlib.Omega.{arith}
use Rattle.hall_entry.specs.Entries.{Entry, entry, chute_kind, hall_kind, kinds_of, values_of}
use Rattle.hall_theorems.specs.Tree.{Hall, none, chute, inner, count, listed}
use Rattle.hall_theorems.proofs.Lists.{entries_same}

same_halls : (h k : Hall) (x y : List Entry) → count h ≡ count k → listed h ++ x ≡ listed k ++ y → (h ≡ k) × (x ≡ y)
unfolding count listed
same_halls none none x y n e = (refl, e)
same_halls none (chute d more) x y n e = absurd (omega arith)
same_halls none (inner b more) x y n e = absurd (omega arith)
same_halls (chute d m) none x y n e = absurd (omega arith)
same_halls (inner a m) none x y n e = absurd (omega arith)
same_halls (chute d m) (chute f k) x y n e =
    let first : entry chute_kind d ≡ entry chute_kind f = cc in
    let v : d ≡ f = ap (λ (z : Entry). z.value) first in
    let t : listed m ++ x ≡ listed k ++ y = cc in
    let w = same_halls m k x y (omega arith) t in
    (rw (v, w.0), w.1)
same_halls (chute d m) (inner b k) x y n e =
    let first : entry chute_kind d ≡ entry hall_kind (count b) = cc in
    absurd (omega (arith, ap (λ (z : Entry). z.kind) first))
same_halls (inner a m) (chute f k) x y n e =
    let first : entry hall_kind (count a) ≡ entry chute_kind f = cc in
    absurd (omega (arith, ap (λ (z : Entry). z.kind) first))
same_halls (inner a m) (inner b k) x y n e =
    let first : entry hall_kind (count a) ≡ entry hall_kind (count b) = cc in
    let c : count a ≡ count b = ap (λ (z : Entry). z.value) first in
    let t : (listed a ++ listed m) ++ x ≡ (listed b ++ listed k) ++ y = cc in
    let q : listed a ++ (listed m ++ x) ≡ listed b ++ (listed k ++ y) = sym (append_assoc (listed a) (listed m) x) ∙ t ∙ append_assoc (listed b) (listed k) y in
    let v = same_halls a b (listed m ++ x) (listed k ++ y) c q in
    let w = same_halls m k x y (omega arith) v.1 in
    (rw (v.0, w.0), w.1)

pub one_hall : (h k : Hall) → count h ≡ count k → kinds_of (listed h) ≡ kinds_of (listed k) → values_of (listed h) ≡ values_of (listed k) → h ≡ k
one_hall h k n a b = (same_halls h k [] [] n (ap (λ (x : List Entry). x ++ []) (entries_same (listed h) (listed k) a b))).0
