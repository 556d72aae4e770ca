-- Laws of entries read from a list of them: with what is left they are the list, and three groups hold their numbers. So do those of lists that keep the rules.
use Rattle.std.specs.Prelude.{◌≡◌, refl, List, [], ◌∷◌, ◌++◌, Bool, true, false, ◌&&◌, ℕ, suc, ◌≤◌, length, leb, eqb}
use Rattle.std.proofs.Common.{sym, ap, ◌∙◌, append_assoc, append-nil, arith, leb-true, eqb-true}
use Rattle.leb128.specs.Number.{max_number}
use Rattle.hall_entry.specs.Limits.{levels_below}
use Rattle.hall_entry.specs.Entries.{Entry, entry, chute_kind, Read, reached, breach, first, entries_of}
use Rattle.hall_entry.specs.Laws.Heads.{kind_known}
use Rattle.hall_entry.specs.Laws.Induction.{AllGood, reads_good}
use Rattle.hall_check.specs.Lists.{pairs, list_head, all_read, halls_allowed, lists_allowed}
use Rattle.hall_check.specs.Laws.Heads.{stands}

-- three groups hold each kind and each value
unfoldable pub EntriesFit : List Entry → Type 0
EntriesFit [] = Unit
EntriesFit (e ∷ l) = (e.kind ≤ max_number) × ((e.value ≤ max_number) × EntriesFit l)

fit_append : (l k : List Entry) → EntriesFit l → EntriesFit k → EntriesFit (l ++ k)
unfolding EntriesFit
fit_append [] k a b = b
fit_append (e ∷ l) k a b = (a.0, (a.1.0, fit_append l k a.1.1 b))

-- the entries l were read from s, and `rest` is left
pub record TakenFrom (s l rest : List Entry) : Type 0 where
  pub whole : l ++ rest ≡ s
  pub fit : EntriesFit l

abbrev pub Taken : (levels n at chutes : ℕ) → List Entry → List Entry → ℕ → List Entry → Type 0
Taken levels n at chutes s l next rest = TakenFrom s l rest

-- an entry before entries
taken_more : (levels chutes at k v mid : ℕ) (s t l rest : List Entry) → list_head levels chutes at s ≡ first k v mid t → TakenFrom t l rest
    → TakenFrom s (entry k v ∷ l) rest
unfolding EntriesFit
taken_more levels chutes at k v mid s t l rest e g =
    let h = stands levels chutes at k v mid s t e in
    record {
      whole = ap (λ (x : List Entry). entry k v ∷ x) g.whole ∙ sym h.is;
      fit = (omega (arith, (kind_known levels chutes k h.allowed).small), (h.small, g.fit));
    }

taken_both : (s t l k rest : List Entry) → TakenFrom s l t → TakenFrom t k rest → TakenFrom s (l ++ k) rest
taken_both s t l k rest a b =
    record { whole = append_assoc l k rest ∙ ap (λ (x : List Entry). l ++ x) b.whole ∙ a.whole; fit = fit_append l k a.fit b.fit }

pub reads_taken : (levels n at chutes : ℕ) (s : List Entry) → AllGood list_head Taken levels n at chutes s (entries_of list_head levels n at chutes s)
unfolding EntriesFit
reads_taken levels n at chutes s =
    reads_good list_head Taken
    (λ levels at chutes s. record { whole = refl; fit = tt })
    (λ levels n at chutes s v mid t l next rest e g. taken_more levels chutes at chute_kind v mid s t l rest e g)
    (λ levels n at chutes s k v mid t inner past u l next rest e o i g.
    taken_more (suc levels) chutes at k v mid s t (inner ++ l) rest e (taken_both t u inner l rest i g))
    levels n at chutes s

-- what lists that keep the rules are
pub record Allowed (outer : ℕ) (kinds values : List ℕ) : Type 0 where
  pub equal : length kinds ≡ length values
  pub outer_fits : outer ≤ max_number
  pub all_read : all_read (entries_of list_head levels_below outer 0 0 (pairs kinds values)) ≡ true

pub lists_known : (outer : ℕ) (kinds values : List ℕ) → lists_allowed outer kinds values ≡ true → Allowed outer kinds values
unfolding lists_allowed halls_allowed
lists_known outer kinds values ok =
    go (eqb (length kinds) (length values)) (leb outer max_number) (all_read (entries_of list_head levels_below outer 0 0 (pairs kinds values)))
    refl refl refl ok
  where
    go : (a b c : Bool) → eqb (length kinds) (length values) ≡ a → leb outer max_number ≡ b
        → all_read (entries_of list_head levels_below outer 0 0 (pairs kinds values)) ≡ c → (a && (b && c)) ≡ true → Allowed outer kinds values
    go true true true ea eb ec q = record { equal = eqb-true _ _ ea; outer_fits = leb-true _ _ eb; all_read = ec }
    go true true false ea eb ec q = let z : ◌≡◌ {A = ℕ} 0 1 = cc in absurd (omega arith)
    go true false c ea eb ec q = let z : ◌≡◌ {A = ℕ} 0 1 = cc in absurd (omega arith)
    go false b c ea eb ec q = let z : ◌≡◌ {A = ℕ} 0 1 = cc in absurd (omega arith)

-- all of a list was read: what was read is the list
pub record ReadWhole (l : List Entry) (r : Read Entry) : Type 0 where
  pub next : ℕ
  pub is : r ≡ reached l next []
  pub fit : EntriesFit l

pub read_whole : (levels n at chutes : ℕ) (l : List Entry) → all_read (entries_of list_head levels n at chutes l) ≡ true
    → ReadWhole l (entries_of list_head levels n at chutes l)
read_whole levels n at chutes l = go (entries_of list_head levels n at chutes l) (reads_taken levels n at chutes l)
  where
    go : (r : Read Entry) → AllGood list_head Taken levels n at chutes l r → all_read r ≡ true → ReadWhole l r
    go (reached k next []) a ok =
        let e : k ≡ l = sym (append-nil k) ∙ a.whole in
        record { next = next; is = rw e; fit = rw e at a.fit }
    go (reached k next (e ∷ rest)) a ok = let z : ◌≡◌ {A = ℕ} 0 1 = cc in absurd (omega arith)
    go (breach place) a ok = let z : ◌≡◌ {A = ℕ} 0 1 = cc in absurd (omega arith)
