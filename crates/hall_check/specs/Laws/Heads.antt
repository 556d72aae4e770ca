-- Laws of the entry that stands first in a list of entries: it is the list's own, its kind may stand there and three groups hold its value; at a place of a
-- list it ends inside it.
use Rattle.std.specs.Prelude.{◌≡◌, refl, List, [], ◌∷◌, Bool, true, false, cond, ◌&&◌, ℕ, suc, ◌+◌, ◌≤◌, ◌<◌, length, get_or, drop, leb}
use Rattle.std.proofs.Common.{ap, arith, length-drop, drop-cons, leb-true}
use Rattle.leb128.specs.Number.{max_number}
use Rattle.hall_entry.specs.Entries.{Entry, entry, kind_allowed, Head, first, wrong}
use Rattle.hall_entry.specs.Laws.Heads.{kind_known, HeadAfter}
use Rattle.hall_check.specs.Lists.{list_head}

-- an entry of the kind k and the value v stands first in s, and t after it
pub record Stands (levels chutes at k v mid : ℕ) (s t : List Entry) : Type 0 where
  pub is : s ≡ entry k v ∷ t
  pub allowed : kind_allowed levels chutes k ≡ true
  pub small : v ≤ max_number
  pub next : mid ≡ at + 1

pub stands : (levels chutes at k v mid : ℕ) (s t : List Entry) → list_head levels chutes at s ≡ first k v mid t → Stands levels chutes at k v mid s t
unfolding list_head
stands levels chutes at k v mid [] t q = let z : ◌≡◌ {A = ℕ} 0 1 = cc in absurd (omega arith)
stands levels chutes at k v mid (e ∷ l) t q = go (kind_allowed levels chutes e.kind) (leb e.value max_number) refl refl q
  where
    go : (a b : Bool) → kind_allowed levels chutes e.kind ≡ a → leb e.value max_number ≡ b
        → cond (a && b) (first e.kind e.value (at + 1) l) (wrong at) ≡ first k v mid t → Stands levels chutes at k v mid (e ∷ l) t
    go true true ea eb p =
        let ek : e.kind ≡ k = cc in
        let ev : e.value ≡ v = cc in
        let el : l ≡ t = cc in
        let en : at + 1 ≡ mid = cc in
        record { is = rw (← ek, ← ev, el); allowed = rw ek at ea; small = leb-true v max_number (rw ev at eb); next = omega arith }
    go true false ea eb p = let z : ◌≡◌ {A = ℕ} 0 1 = cc in absurd (omega arith)
    go false b ea eb p = let z : ◌≡◌ {A = ℕ} 0 1 = cc in absurd (omega arith)

pub list_heads : (l : List Entry) (levels chutes at : ℕ) → HeadAfter l levels chutes at (list_head levels chutes at (drop at l))
list_heads l levels chutes at = go (list_head levels chutes at (drop at l)) refl
  where
    go : (r : Head Entry) → list_head levels chutes at (drop at l) ≡ r → HeadAfter l levels chutes at r
    go (first k v mid t) q =
        let s = stands levels chutes at k v mid (drop at l) t q in
        let inside : at < length l = omega (arith, ap length s.is, length-drop at l) in
        let here : drop at l ≡ get_or l at (entry 0 0) ∷ drop (suc at) l = drop-cons l at (entry 0 0) inside in
        let rest : t ≡ drop (suc at) l = cc s.is in
        let past : mid ≡ suc at = omega (arith, s.next) in
        record {
          kind = kind_known levels chutes k s.allowed;
          small = s.small;
          past = omega arith;
          inside = omega arith;
          left = rw past rest;
        }
    go (wrong place) q = tt
