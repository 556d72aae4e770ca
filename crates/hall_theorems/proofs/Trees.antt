-- The entries of an accepted hall plan are those of a hall within the limits.
use mathlib.Core.Path.{◌≡◌, refl, sym, ap, ◌∙◌}
use mathlib.Core.List.{List, [], ◌∷◌, ◌++◌}
use mathlib.Core.Bool.{Bool, true, false, cond}
use Prim.Native.Nat.{ℕ, zero, suc, ◌+◌, ◌≤◌}
use native.Mathlib.Nat.{max-le}
use native.Mathlib.Omega.{arith}
use lib.ListN.{length, length-append}
use Rattle.answers.specs.Breaches.{place_of}
use Rattle.leb128.specs.Number.{Parsed, value, bad, max_number}
use Rattle.leb128.specs.Laws.Reading.{Used, groups_used, limit_three}
use Rattle.plan_read.specs.Plan.{plan_number}
use Rattle.hall_entry.specs.Limits.{max_chutes}
use Rattle.hall_entry.specs.Entries.{Entry, entry, chute_kind, hall_kind, destinations, kind_allowed, first, wrong, entries_of}
use Rattle.hall_entry.specs.Bytes.{valued, kind_breach, judged, byte_head}
use Rattle.hall_entry.specs.Laws.Heads.{Kind, kind_known}
use Rattle.hall_entry.specs.Laws.Induction.{AllGood, reads_good, chute_destinations, hall_destinations}
use Rattle.hall_read.specs.Laws.Kept.{destinations_append}
use Rattle.hall_theorems.specs.Tree.{Hall, none, chute, inner, count, listed, destinations_of, levels_of, NumbersFit}

-- what was read first: a kind that may stand there, and a value that three groups hold
number_small : (at : ℕ) (s : List ℕ) (v next : ℕ) (rest : List ℕ) (p : Parsed) → Used true 2 at s p → p ≡ value v next rest → v ≤ max_number
number_small at s v next rest (value w n t) u e = let q : w ≡ v = cc in omega (arith, limit_three, u.below)
number_small at s v next rest (bad place) u e = let z : ◌≡◌ {A = ℕ} 0 1 = cc in absurd (omega arith)

value_small : (k v mid next : ℕ) (t u : List ℕ) (p : Parsed) → plan_number mid t ≡ p → valued k p ≡ first k v next u → v ≤ max_number
value_small k v mid next t u (value w n x) e q =
    let s : w ≤ max_number = number_small mid t w n x (plan_number mid t) (groups_used true 2 mid t) e in
    let z : w ≡ v = cc in
    omega arith
value_small k v mid next t u (bad place) e q = let z : ◌≡◌ {A = ℕ} 0 1 = cc in absurd (omega arith)

pub first_known : (levels chutes at : ℕ) (s : List ℕ) (k v next : ℕ) (rest : List ℕ) → byte_head levels chutes at s ≡ first k v next rest
    → Kind levels chutes k × (v ≤ max_number)
unfolding byte_head
first_known levels chutes at s k v next rest e = go (plan_number at s) e
  where
    pick : (j mid : ℕ) (t : List ℕ) (b : Bool) → kind_allowed levels chutes j ≡ b
        → cond b (valued j (plan_number mid t)) (wrong (place_of (kind_breach at j))) ≡ first k v next rest → Kind levels chutes k × (v ≤ max_number)
    pick j mid t true h q = of_value (plan_number mid t) refl q
      where
        of_value : (p : Parsed) → plan_number mid t ≡ p → valued j p ≡ first k v next rest → Kind levels chutes k × (v ≤ max_number)
        of_value (value w n x) a b =
            let zk : j ≡ k = cc in
            let zv : w ≡ v = cc in
            let small : w ≤ max_number = number_small mid t w n x (plan_number mid t) (groups_used true 2 mid t) a in
            (rw zk at (kind_known levels chutes j h), omega arith)
        of_value (bad place) a b = let z : ◌≡◌ {A = ℕ} 0 1 = cc in absurd (omega arith)
    pick j mid t false h q = let z : ◌≡◌ {A = ℕ} 0 1 = cc in absurd (omega arith)

    go : (p : Parsed) → judged levels chutes at p ≡ first k v next rest → Kind levels chutes k × (v ≤ max_number)
    go (value j mid t) q = pick j mid t (kind_allowed levels chutes j) refl q
    go (bad place) q = let z : ◌≡◌ {A = ℕ} 0 1 = cc in absurd (omega arith)

pub no_destinations : destinations [] ≡ []
unfolding destinations
no_destinations = refl

-- the chutes of a hall are the destinations among its entries
pub listed_chutes : (h : Hall) → destinations (listed h) ≡ destinations_of h
unfolding listed destinations_of
listed_chutes none = no_destinations
listed_chutes (chute d more) = chute_destinations d (listed more) ∙ ap (λ (x : List ℕ). d ∷ x) (listed_chutes more)
listed_chutes (inner h more) =
    hall_destinations hall_kind (count h) (listed h ++ listed more) (λ z. omega arith) ∙ destinations_append (listed h) (listed more)
    ∙ rw (listed_chutes h, listed_chutes more)

-- n entries l, read where so many levels are left below and so many chutes stand before
pub record TreeOf (below n before : ℕ) (l : List Entry) : Type 0 where
  pub hall : Hall
  pub is_count : count hall ≡ n
  pub is_listed : listed hall ≡ l
  pub deep : levels_of hall ≤ suc below
  pub few : before + length (destinations_of hall) ≤ max_chutes
  pub fits : NumbersFit hall

abbrev pub Good : (below n at before : ℕ) → List ℕ → List Entry → ℕ → List ℕ → Type 0
Good below n at before s l next rest = before ≤ max_chutes → TreeOf below n before l

good_none : (below at before : ℕ) (s : List ℕ) → Good below 0 at before s [] at s
unfolding count listed levels_of destinations_of NumbersFit
good_none below at before s h = record { hall = none; is_count = refl; is_listed = refl; deep = omega arith; few = omega arith; fits = tt }

good_chute : (below n at before : ℕ) (s : List ℕ) (v mid : ℕ) (t : List ℕ) (l : List Entry) (next : ℕ) (rest : List ℕ)
    → byte_head below before at s ≡ first chute_kind v mid t → Good below n mid (before + 1) t l next rest
    → Good below (suc n) at before s (entry chute_kind v ∷ l) next rest
unfolding count listed levels_of destinations_of NumbersFit
good_chute below n at before s v mid t l next rest e g h =
    let f = first_known below before at s chute_kind v mid t e in
    let r = g (omega (arith, f.0.chute refl)) in
    record {
      hall = chute v r.hall;
      is_count = ap suc r.is_count;
      is_listed = ap (λ (x : List Entry). entry chute_kind v ∷ x) r.is_listed;
      deep = r.deep;
      few = omega (arith, r.few);
      fits = (f.1, r.fits);
    }

listed_hall : (h more : Hall) (k v : ℕ) (l m : List Entry) → hall_kind ≡ k → count h ≡ v → listed h ≡ l → listed more ≡ m
    → listed (inner h more) ≡ entry k v ∷ (l ++ m)
unfolding listed
listed_hall h more k v l m ek ev el em = rw (ek, ev, el, em)

good_hall : (below n at before : ℕ) (s : List ℕ) (k v mid : ℕ) (t : List ℕ) (l : List Entry) (past : ℕ) (u : List ℕ) (m : List Entry) (next : ℕ) (rest : List ℕ)
    → byte_head (suc below) before at s ≡ first k v mid t → (k ≡ chute_kind → ⊥) → Good below v mid before t l past u
    → Good (suc below) n past (before + length (destinations l)) u m next rest → Good (suc below) (suc n) at before s (entry k v ∷ (l ++ m)) next rest
unfolding count listed levels_of destinations_of NumbersFit
good_hall below n at before s k v mid t l past u m next rest e o i g h =
    let f = first_known (suc below) before at s k v mid t e in
    let a = i h in
    let one : hall_kind ≡ k = omega (arith, f.0.small, positive k o) in
    let d : length (destinations l) ≡ length (destinations_of a.hall) = ap length (sym (ap destinations a.is_listed) ∙ listed_chutes a.hall) in
    let b = g (omega (arith, a.few)) in
    record {
      hall = inner a.hall b.hall;
      is_count = ap suc b.is_count;
      is_listed = listed_hall a.hall b.hall k v l m one a.is_count a.is_listed b.is_listed;
      deep = max-le (omega (arith, a.deep)) b.deep;
      few = omega (arith, b.few, length-append (destinations_of a.hall) (destinations_of b.hall));
      fits = (omega (arith, a.is_count, f.1), (a.fits, b.fits));
    }
  where
    positive : (k : ℕ) → (k ≡ chute_kind → ⊥) → 1 ≤ k
    positive zero z = absurd (z refl)
    positive (suc k) z = omega arith

pub trees : (below n at before : ℕ) (s : List ℕ) → AllGood byte_head Good below n at before s (entries_of byte_head below n at before s)
trees = reads_good byte_head Good good_none good_chute good_hall
