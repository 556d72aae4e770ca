-- Laws of the entry that stands first in any list: what its kind says, that it lies inside the list, and what it is by the code's answer.
use Rattle.std.specs.Prelude.{◌≡◌, refl, List, true, false, ℕ, zero, suc, ◌+◌, ◌≤◌, ◌<◌, length, drop, Ok, Err}
use Rattle.std.proofs.Common.{◌∙◌, arith, ltb-true}
use Rattle.answers.specs.Breaches.{place_of}
use Rattle.leb128.specs.Number.{max_number}
use Rattle.hall_entry.specs.Limits.{max_chutes}
use Rattle.hall_entry.specs.Entries.{chute_kind, hall_kind, kind_allowed, Head, first, wrong}
use Rattle.hall_entry.specs.Bytes.{kind_breach}
use Rattle.hall_entry.specs.Answers.{kind_number, kind_of, head_answer}
use Rattle.hall_entry.specs.declared.EntryRead.{EntryRead}
use Rattle.answers.specs.declared.Malformed.{Malformed}

-- what a kind that is allowed says
pub record Kind (levels chutes k : ℕ) : Type 0 where
  pub small : k ≤ 1
  pub chute : k ≡ chute_kind → chutes < max_chutes
  pub hall : (k ≡ chute_kind → ⊥) → 1 ≤ levels

pub kind_known : (levels chutes k : ℕ) → kind_allowed levels chutes k ≡ true → Kind levels chutes k
kind_known levels chutes zero e = record { small = omega arith; chute = λ z. ltb-true _ _ e; hall = λ n. absurd (n refl) }
kind_known levels chutes (suc zero) e = record { small = omega arith; chute = λ z. absurd (omega arith); hall = λ n. ltb-true _ _ e }
kind_known levels chutes (suc (suc k)) e = let z : ◌≡◌ {A = ℕ} 0 1 = cc in absurd (omega arith)

pub kind_other : (levels chutes k : ℕ) → (k ≡ chute_kind → ⊥) → (k ≡ hall_kind → ⊥) → false ≡ kind_allowed levels chutes k
kind_other levels chutes zero a b = absurd (a refl)
kind_other levels chutes (suc zero) a b = absurd (b refl)
kind_other levels chutes (suc (suc k)) a b = refl

-- a kind that is allowed has the number that was read
pub kind_back : (k : ℕ) → k ≤ 1 → kind_number (kind_of k) ≡ k
kind_back zero h = refl
kind_back (suc k) h = let z : k ≡ 0 = omega arith in rw z

-- the place of an entry whose kind may not stand there is its first byte, whatever the breach
pub kind_place : (at k : ℕ) → place_of (kind_breach at k) ≡ at
kind_place at zero = refl
kind_place at (suc zero) = refl
kind_place at (suc (suc k)) = refl

module _ {A : Type 0} (s : List A) where
  -- an entry's kind and value were read from the place `at` of s on
  pub record HeadIn (levels chutes at k v next : ℕ) (rest : List A) : Type 0 where
    pub kind : Kind levels chutes k
    pub small : v ≤ max_number
    pub past : at + 1 ≤ next
    pub inside : next ≤ length s
    pub left : rest ≡ drop next s

  abbrev pub HeadAfter : ℕ → ℕ → ℕ → Head A → Type 0
  HeadAfter levels chutes at (first k v next rest) = HeadIn levels chutes at k v next rest
  HeadAfter levels chutes at (wrong place) = Unit

  -- what stands first, from the code's answer
  pub record HeadKnown (levels chutes at k v next : ℕ) (h : Head A) : Type 0 where
    pub is : h ≡ first k v next (drop next s)
    pub kind : Kind levels chutes k
    pub past : at + 1 ≤ next
    pub inside : next ≤ length s

  pub head_known : (levels chutes at : ℕ) (e : EntryRead) (h : Head A) → HeadAfter levels chutes at h → head_answer h ≡ Ok e
      → HeadKnown levels chutes at (kind_number e.kind) e.value e.next h
  head_known levels chutes at e (first k v n rest) a q =
      let ek : kind_number e.kind ≡ k = (cc) ∙ kind_back k a.kind.small in
      let ev : e.value ≡ v = cc in
      let en : e.next ≡ n = cc in
      record { is = rw (a.left, ek, ev, en); kind = rw ek a.kind; past = rw en a.past; inside = rw en a.inside }
  head_known levels chutes at e (wrong place) a q = absurd cc

pub head_wrong : {A : Type 0} (h : Head A) (m : Malformed) → head_answer h ≡ Err m → h ≡ wrong m.place
head_wrong (first k v n rest) m e = absurd cc
head_wrong (wrong p) m e = cc
