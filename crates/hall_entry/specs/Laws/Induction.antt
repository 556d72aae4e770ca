-- Induction over entries read from any list: what holds of no entries, goes on past a chute, and goes on past a hall with its entries, holds of all that are
-- read. Every law on reading is an instance.
use Rattle.std.specs.Prelude.{◌≡◌, Bool, true, false, cond, eqb}
use Rattle.std.proofs.Math.Path.{refl}
use mathlib.Core.List.{List, [], ◌∷◌, ◌++◌, append-nil}
use Prim.Native.Nat.{ℕ, zero, suc, ◌+◌}
use Rattle.std.proofs.Common.{eqb-true, ne_eqb}
use Rattle.std.proofs.Math.ListN.{length}
use Rattle.std.proofs.lemmas.Bool.{eqb-false}
use Rattle.hall_entry.specs.Entries.{
  Entry,
  entry,
  chute_kind,
  destinations,
  Head,
  first,
  wrong,
  Read,
  reached,
  breach,
  prepend,
  and_then,
  after_head,
  entries_with,
  inner_of,
  entries_of,
  entry_of,
}

pub chute_destinations : (v : ℕ) (l : List Entry) → destinations (entry chute_kind v ∷ l) ≡ v ∷ destinations l
unfolding destinations
chute_destinations v l = refl

pub hall_destinations : (k v : ℕ) (l : List Entry) → (k ≡ chute_kind → ⊥) → destinations (entry k v ∷ l) ≡ destinations l
unfolding destinations
hall_destinations k v l n = rw (ne_eqb _ _ n)

module _ {A : Type 0} (head : ℕ → ℕ → ℕ → List A → Head A) where
  -- one entry is the entries of a hall of one
  pub entry_alone : (levels at chutes : ℕ) (s : List A) → entries_of head levels 1 at chutes s ≡ entry_of head levels at chutes s
  unfolding entries_with
  entry_alone levels at chutes s = go (entry_of head levels at chutes s)
    where
      go : (r : Read A) → and_then r (λ l next rest. reached [] next rest) ≡ r
      go (reached l next rest) = rw (append-nil l)
      go (breach place) = refl

  -- `Good levels n at chutes s l next rest`: of the n entries l, read from s on at the place `at`, with so many levels left below and chutes before them, up to
  -- the place `next`, from which on `rest` is left
  module _ (Good : (levels n at chutes : ℕ) (s : List A) (l : List Entry) (next : ℕ) (rest : List A) → Type 0) where
    abbrev pub AllGood : (levels n at chutes : ℕ) → List A → Read A → Type 0
    AllGood levels n at chutes s (reached l next rest) = Good levels n at chutes s l next rest
    AllGood levels n at chutes s (breach place) = Unit

    -- of a hall's entries where `levels` levels are left for them
    abbrev InnerGood : (levels n at chutes : ℕ) → List A → Read A → Type 0
    InnerGood zero n at chutes s (reached l next rest) = ⊥
    InnerGood (suc levels) n at chutes s (reached l next rest) = Good levels n at chutes s l next rest
    InnerGood levels n at chutes s (breach place) = Unit

    -- no entries
    abbrev pub WithNone : Type 0
    WithNone = (levels at chutes : ℕ) (s : List A) → Good levels 0 at chutes s [] at s

    -- one more before others, a chute
    abbrev pub WithChute : Type 0
    WithChute =
        (levels n at chutes : ℕ) (s : List A) (v mid : ℕ) (t : List A) (l : List Entry) (next : ℕ) (rest : List A)
        → head levels chutes at s ≡ first chute_kind v mid t → Good levels n mid (chutes + 1) t l next rest
        → Good levels (suc n) at chutes s (entry chute_kind v ∷ l) next rest

    -- one more before others, a hall with the entries `inner`
    abbrev pub WithHall : Type 0
    WithHall =
        (levels n at chutes : ℕ) (s : List A) (k v mid : ℕ) (t : List A) (inner : List Entry) (past : ℕ) (u : List A) (l : List Entry) (next : ℕ)
        (rest : List A) → head (suc levels) chutes at s ≡ first k v mid t → (k ≡ chute_kind → ⊥) → Good levels v mid chutes t inner past u
        → Good (suc levels) n past (chutes + length (destinations inner)) u l next rest
        → Good (suc levels) (suc n) at chutes s (entry k v ∷ (inner ++ l)) next rest

    module _ (none : WithNone) (chute : WithChute) (hall : WithHall) where
      module _ (levels n at chutes : ℕ) (s : List A) (go : List Entry → ℕ → List A → Read A)
          (more : (l : List Entry) (next : ℕ) (rest : List A) → AllGood levels n next (chutes + length (destinations l)) rest (go l next rest)) where
        after_chute : (v mid : ℕ) (t : List A) → head levels chutes at s ≡ first chute_kind v mid t
            → AllGood levels (suc n) at chutes s (and_then (reached (entry chute_kind v ∷ []) mid t) go)
        unfolding destinations
        after_chute v mid t e = pick (go (entry chute_kind v ∷ []) mid t) (more (entry chute_kind v ∷ []) mid t)
          where
            pick : (r : Read A) → AllGood levels n mid (chutes + 1) t r → AllGood levels (suc n) at chutes s (prepend (entry chute_kind v ∷ []) r)
            pick (reached l next rest) g = chute levels n at chutes s v mid t l next rest e g
            pick (breach place) g = tt

        after_hall : (k v mid : ℕ) (t : List A) → head levels chutes at s ≡ first k v mid t → (k ≡ chute_kind → ⊥) → (r : Read A)
            → InnerGood levels v mid chutes t r → AllGood levels (suc n) at chutes s (and_then (prepend (entry k v ∷ []) r) go)
        after_hall k v mid t e o (reached inner past u) i =
            pick levels e i (go (entry k v ∷ inner) past u) (rw (hall_destinations k v inner o) at (more (entry k v ∷ inner) past u))
          where
            pick : (m : ℕ) → head m chutes at s ≡ first k v mid t → InnerGood m v mid chutes t (reached inner past u) → (r : Read A)
                → AllGood m n past (chutes + length (destinations inner)) u r → AllGood m (suc n) at chutes s (prepend (entry k v ∷ inner) r)
            pick zero q i r g = absurd i
            pick (suc m) q i (reached l next rest) g = hall m n at chutes s k v mid t inner past u l next rest q o i g
            pick (suc m) q i (breach place) g = tt
        after_hall k v mid t e o (breach place) i = tt

        after_head_lem : ((v mid : ℕ) (t : List A) → InnerGood levels v mid chutes t (inner_of head levels v mid chutes t)) → (h : Head A)
            → head levels chutes at s ≡ h
            → AllGood levels (suc n) at chutes s (and_then (after_head h (λ m next rest. inner_of head levels m next chutes rest)) go)
        after_head_lem i (first k v mid t) e = pick (eqb k chute_kind) refl
          where
            pick : (b : Bool) → eqb k chute_kind ≡ b
                → AllGood levels (suc n) at chutes s
                (and_then (prepend (entry k v ∷ []) (cond b (reached [] mid t) (inner_of head levels v mid chutes t))) go)
            pick true q = let z : k ≡ chute_kind = eqb-true _ _ q in rw z (after_chute v mid t (rw z at e))
            pick false q = after_hall k v mid t e (eqb-false _ _ q) (inner_of head levels v mid chutes t) (i v mid t)
        after_head_lem i (wrong place) e = tt

      hall_good : (levels : ℕ) → ((n at chutes : ℕ) (s : List A) → InnerGood levels n at chutes s (inner_of head levels n at chutes s))
          → (n at chutes : ℕ) (s : List A) → AllGood levels n at chutes s (entries_of head levels n at chutes s)
      unfolding entries_with
      hall_good levels i zero at chutes s = none levels at chutes s
      hall_good levels i (suc n) at chutes s =
          after_head_lem levels n at chutes s _ (λ l next rest. hall_good levels i n next (chutes + length (destinations l)) rest) (λ v mid t. i v mid chutes t)
          (head levels chutes at s) refl

      inner_good : (levels n at chutes : ℕ) (s : List A) → InnerGood levels n at chutes s (inner_of head levels n at chutes s)
      unfolding inner_of
      inner_good zero n at chutes s = tt
      inner_good (suc levels) n at chutes s = lift (entries_of head levels n at chutes s) (hall_good levels (inner_good levels) n at chutes s)
        where
          lift : (r : Read A) → AllGood levels n at chutes s r → InnerGood (suc levels) n at chutes s r
          lift (reached l next rest) g = g
          lift (breach place) g = tt

      -- so it holds of all entries of a hall
      pub reads_good : (levels n at chutes : ℕ) (s : List A) → AllGood levels n at chutes s (entries_of head levels n at chutes s)
      reads_good levels n at chutes s = hall_good levels (inner_good levels) n at chutes s
