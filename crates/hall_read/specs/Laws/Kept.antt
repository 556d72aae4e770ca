-- Laws of what a lookup keeps while entries are passed over, and of passes moved past entries.
use Rattle.std.specs.Prelude.{◌≡◌, refl, List, [], ◌∷◌, ◌++◌, Bool, true, false, cond, ℕ, zero, suc, ◌+◌, ◌≤◌, length, get_or, eqb, Ok}
use Rattle.std.proofs.Common.{ap, arith, length-append, eq-eqb, ne_eqb}
use Rattle.hall_entry.specs.Entries.{Entry, entry, chute_kind, destinations, Read, reached, breach, prepend}
use Rattle.hall_read.specs.Passing.{chute_at, kept, moved_past, passed_over, inside_hall}
use Rattle.hall_read.specs.declared.Progress.{Progress}

kept_past : (c i d : ℕ) (l : List ℕ) → c ≤ i → kept c i d l ≡ d
unfolding kept
kept_past c i d [] h = refl
kept_past c i d (v ∷ l) h =
    let n : i + 1 ≡ c → ⊥ = λ e. omega arith in
    rw (ne_eqb _ _ n) (kept_past c (i + 1) d l (omega arith))

kept_at : (c i k d : ℕ) (l : List ℕ) → c ≡ i + 1 + k → kept c i d l ≡ get_or l k d
unfolding kept
kept_at c i k d [] e = refl
kept_at c i zero d (v ∷ l) e =
    let n : i + 1 ≡ c = omega arith in
    rw (eq-eqb _ _ n) (kept_past c (i + 1) v l (omega arith))
kept_at c i (suc k) d (v ∷ l) e =
    let n : i + 1 ≡ c → ⊥ = λ q. omega arith in
    rw (ne_eqb _ _ n) (kept_at c (i + 1) k d l (omega arith))

pub kept_first : (c : ℕ) (l : List ℕ) → kept c 0 0 l ≡ chute_at c l
kept_first zero l = kept_past 0 0 0 l (omega arith)
kept_first (suc c) l = kept_at (suc c) 0 c 0 l (omega arith)

kept_append : (c i d : ℕ) (l k : List ℕ) → kept c i d (l ++ k) ≡ kept c (i + length l) (kept c i d l) k
unfolding kept
kept_append c i d [] k = let z : i + 0 ≡ i = omega arith in rw z
kept_append c i d (v ∷ l) k = let z : i + suc (length l) ≡ i + 1 + length l = omega arith in rw z (kept_append c (i + 1) (cond (eqb (i + 1) c) v d) l k)

pub destinations_append : (l k : List Entry) → destinations (l ++ k) ≡ destinations l ++ destinations k
unfolding destinations
destinations_append [] k = refl
destinations_append (e ∷ l) k = go (eqb e.kind chute_kind) (destinations_append l k)
  where
    go : (b : Bool) → destinations (l ++ k) ≡ destinations l ++ destinations k
        → cond b (e.value ∷ destinations (l ++ k)) (destinations (l ++ k)) ≡ cond b (e.value ∷ destinations l) (destinations l) ++ destinations k
    go true q = ap (λ (t : List ℕ). e.value ∷ t) q
    go false q = q

module _ (c : ℕ) (from : Progress) (l : List Entry) (mid : ℕ) where
  moved_append : (k : List Entry) (next : ℕ) → moved_past c from (l ++ k) next ≡ moved_past c (moved_past c from l mid) k next
  moved_append k next =
      let d : List ℕ = destinations l in
      let m : List ℕ = destinations k in
      let e : from.entries + (length l + length k) ≡ from.entries + length l + length k = omega arith in
      let f : from.chutes + (length d + length m) ≡ from.chutes + length d + length m = omega arith in
      rw (length-append l k, e, destinations_append l k, length-append d m, f, kept_append c from.chutes from.found d m)

  pub passed_prepend : {A : Type 0} (r : Read A) → passed_over c from (prepend l r) ≡ passed_over c (moved_past c from l mid) r
  passed_prepend (reached k next rest) = ap Ok (moved_append k next)
  passed_prepend (breach place) = refl

-- a pass, past no entries, past one chute, and inside a hall
pub moved_none : (c : ℕ) (from : Progress) → moved_past c from [] from.at ≡ from
unfolding destinations kept
moved_none c from =
    let e : from.entries + 0 ≡ from.entries = omega arith in
    let f : from.chutes + 0 ≡ from.chutes = omega arith in
    rw (e, f)

pub moved_hall : (c : ℕ) (from : Progress) (k v next : ℕ) → (k ≡ chute_kind → ⊥) → moved_past c from (entry k v ∷ []) next ≡ inside_hall from next
unfolding destinations kept
moved_hall c from k v next n = let f : from.chutes + 0 ≡ from.chutes = omega arith in rw (ne_eqb _ _ n, f)

pub moved_chute : (c : ℕ) (from : Progress) (v next : ℕ)
    → moved_past c from (entry chute_kind v ∷ []) next
    ≡ record { at = next; entries = from.entries + 1; chutes = from.chutes + 1; found = cond (eqb (from.chutes + 1) c) v from.found }
unfolding destinations kept
moved_chute c from v next = refl
