-- Bytes that are accepted as a flat plan and as a hall plan have no rows and no entries: n rows are n numbers, and n entries are 2 n or more.
use mathlib.Core.Path.{◌≡◌, refl, sym, ap, ◌∙◌}
use mathlib.Core.List.{List, [], ◌∷◌}
use mathlib.Core.Bool.{Bool, true, false, cond}
use Prim.Native.Nat.{ℕ, zero, suc, ◌+◌, ◌-◌, ◌≤◌}
use native.Mathlib.Omega.{arith}
use lib.ListN.{length}
use lib.Dec.{ltb, leb}
use Rattle.answers.specs.Numbers.{done, input_too_long}
use Rattle.answers.specs.Breaches.{place_of}
use Rattle.leb128.specs.Number.{Parsed, value, bad, groups}
use Rattle.plan_read.specs.Limits.{max_plan, max_rows}
use Rattle.plan_read.specs.Plan.{Plan, rows, refused, plan_number, row, malformed, cons_row, after_number, rows_by, rows_from, plan_by, plan_of}
use Rattle.plan_read.specs.Laws.Refusals.{Numbered, plan_numbered}
use Rattle.plan_read.specs.declared.Row.{Row}
use Rattle.plan.specs.Answers.{summary, summary_of}
use Rattle.hall_entry.specs.Limits.{levels_below}
use Rattle.hall_entry.specs.Entries.{Entry, chute_kind, kind_allowed, first, wrong, Read, reached, breach, entries_of}
use Rattle.hall_entry.specs.Bytes.{valued, kind_breach, judged, byte_head}
use Rattle.hall_entry.specs.Laws.Induction.{AllGood, WithNone, WithChute, WithHall, reads_good}
use Rattle.hall_read.specs.Halls.{HallPlan, halls, refused as refused_halls, nothing_after, with_outer, halls_of}
use Rattle.hall_read.specs.Laws.Refusals.{Numbered as NumberedHalls, plan_numbered as halls-numbered}
use Rattle.hall.specs.Answers.{hall_summary, hall_summary_of}

-- what is left after n numbers
abbrev and_next : Parsed → (ℕ → List ℕ → Parsed) → Parsed
and_next (value v next rest) go = go next rest
and_next (bad place) go = bad place

skip : ℕ → ℕ → List ℕ → Parsed
skip zero at s = value 0 at s
skip (suc n) at s = and_next (plan_number at s) (λ next rest. skip n next rest)

skip_add : (a b at : ℕ) (s : List ℕ) → skip (a + b) at s ≡ and_next (skip a at s) (λ next rest. skip b next rest)
unfolding skip
skip_add zero b at s = let z : 0 + b ≡ b = omega arith in rw z
skip_add (suc a) b at s = let z : suc a + b ≡ suc (a + b) = omega arith in rw z (go (plan_number at s) (λ next rest. skip_add a b next rest))
  where
    go : (p : Parsed)
        → ((next : ℕ) (rest : List ℕ) → skip (a + b) next rest ≡ and_next (skip a next rest) (λ next rest. skip b next rest))
        → and_next p (λ next rest. skip (a + b) next rest) ≡ and_next (and_next p (λ next rest. skip a next rest)) (λ next rest. skip b next rest)
    go (value v next rest) ih = ih next rest
    go (bad place) ih = refl

skip_none : (n at : ℕ) → skip (suc n) at [] ≡ bad at
unfolding skip groups
skip_none n at = refl

-- n rows are n numbers
record RowsSkipped (n : ℕ) (left : Parsed) (l : List Row) : Type 0 where
  end : ℕ
  is : left ≡ value 0 end []
  same : length l ≡ n

rows_skipped : (n at : ℕ) (s : List ℕ) (l : List Row) → rows_from n at s ≡ rows l → RowsSkipped n (skip n at s) l
unfolding rows_by skip
rows_skipped zero at [] l e = let z : [] ≡ l = cc in record { end = at; is = refl; same = sym (ap length z) }
rows_skipped zero at (b ∷ s) l e = let z : ◌≡◌ {A = ℕ} 0 1 = cc in absurd (omega arith)
rows_skipped (suc n) at s l e = go (plan_number at s) e
    (λ next rest k. rows_skipped n next rest k)
  where
    pick : (v next : ℕ) (rest : List ℕ) (r : Plan) → ((k : List Row) → r ≡ rows k → RowsSkipped n (skip n next rest) k) → cons_row (row v at next) r ≡ rows l
        → RowsSkipped (suc n) (skip n next rest) l
    pick v next rest (rows k) ih b =
        let w = ih k refl in
        let z : row v at next ∷ k ≡ l = cc in
        record { end = w.end; is = w.is; same = sym (ap length z) ∙ ap suc w.same }
    pick v next rest (refused m place) ih b = let z : ◌≡◌ {A = ℕ} 0 1 = cc in absurd (omega arith)

    go : (p : Parsed) → after_number p (λ v next rest. cons_row (row v at next) (rows_from n next rest)) ≡ rows l
        → ((next : ℕ) (rest : List ℕ) (k : List Row) → rows_from n next rest ≡ rows k → RowsSkipped n (skip n next rest) k)
        → RowsSkipped (suc n) (and_next p (λ next rest. skip n next rest)) l
    go (value v next rest) q ih = pick v next rest (rows_from n next rest) (λ k. ih next rest k) q
    go (bad place) q ih = let z : ◌≡◌ {A = ℕ} 0 1 = cc in absurd (omega arith)

-- an entry is two numbers, and then those of its hall
head_skipped : (levels chutes at : ℕ) (s : List ℕ) (k v mid : ℕ) (t : List ℕ) → byte_head levels chutes at s ≡ first k v mid t
    → skip (suc (suc zero)) at s ≡ value 0 mid t
unfolding byte_head skip
head_skipped levels chutes at s k v mid t e = go (plan_number at s) e
  where
    of_value : (j : ℕ) (p : Parsed) → valued j p ≡ first k v mid t → and_next p (λ next rest. value 0 next rest) ≡ value 0 mid t
    of_value j (value w next rest) q =
        let n : next ≡ mid = cc in
        let r : rest ≡ t = cc in
        rw (n, r)
    of_value j (bad place) q = let z : ◌≡◌ {A = ℕ} 0 1 = cc in absurd (omega arith)

    pick : (j n : ℕ) (u : List ℕ) (b : Bool) → cond b (valued j (plan_number n u)) (wrong (place_of (kind_breach at j))) ≡ first k v mid t
        → skip (suc zero) n u ≡ value 0 mid t
    pick j n u true q = of_value j (plan_number n u) q
    pick j n u false q = let z : ◌≡◌ {A = ℕ} 0 1 = cc in absurd (omega arith)

    go : (p : Parsed) → judged levels chutes at p ≡ first k v mid t → and_next p (λ next rest. skip (suc zero) next rest) ≡ value 0 mid t
    go (value j n u) q = pick j n u (kind_allowed levels chutes j) q
    go (bad place) q = let z : ◌≡◌ {A = ℕ} 0 1 = cc in absurd (omega arith)

record EntriesSkipped (n at : ℕ) (s : List ℕ) (next : ℕ) (rest : List ℕ) : Type 0 where
  numbers : ℕ
  enough : n + n ≤ numbers
  is : skip numbers at s ≡ value 0 next rest

abbrev Good : (levels n at chutes : ℕ) → List ℕ → List Entry → ℕ → List ℕ → Type 0
Good levels n at chutes s l next rest = EntriesSkipped n at s next rest

-- two numbers, and then others
two_more : (at : ℕ) (s : List ℕ) (mid : ℕ) (t : List ℕ) (b next : ℕ) (rest : List ℕ) → skip (suc (suc zero)) at s ≡ value 0 mid t
    → skip b mid t ≡ value 0 next rest → skip (suc (suc zero) + b) at s ≡ value 0 next rest
two_more at s mid t b next rest e g = skip_add (suc (suc zero)) b at s ∙ rw e g

good_none : WithNone byte_head Good
unfolding skip
good_none levels at chutes s = record { numbers = 0; enough = omega arith; is = refl }

good_chute : WithChute byte_head Good
good_chute levels n at chutes s v mid t l next rest e g =
    record {
      numbers = suc (suc zero) + g.numbers;
      enough = omega (arith, g.enough);
      is = two_more at s mid t g.numbers next rest (head_skipped levels chutes at s chute_kind v mid t e) g.is;
    }

good_hall : WithHall byte_head Good
good_hall levels n at chutes s k v mid t inner past u l next rest e o i g =
    record {
      numbers = suc (suc zero) + (i.numbers + g.numbers);
      enough = omega (arith, g.enough);
      is = two_more at s mid t (i.numbers + g.numbers) next rest (head_skipped (suc levels) chutes at s k v mid t e)
          (skip_add i.numbers g.numbers mid t ∙ rw i.is g.is);
    }

-- so n rows and n entries do not end alike, unless there are none
clash : (n at : ℕ) (s : List ℕ) (l : List Row) (next : ℕ) → RowsSkipped n (skip n at s) l → EntriesSkipped n at s next [] → n ≡ 0
clash zero at s l next r w = refl
clash (suc n) at s l next r w =
    let more : ℕ = w.numbers - suc (suc n) in
    let sum : w.numbers ≡ suc n + suc more = omega (arith, w.enough) in
    let left : value 0 next [] ≡ bad r.end =
    sym w.is ∙ ap (λ (k : ℕ). skip k at s) sum ∙ skip_add (suc n) (suc more) at s ∙ rw r.is (skip_none more r.end) in
    let z : ◌≡◌ {A = ℕ} 0 1 = cc in
    absurd (omega arith)

module _ (s : List ℕ) (l : List Row) (outer : ℕ) (m : List Entry) where
  of_entries : (n next : ℕ) (rest : List ℕ) → rows_from n next rest ≡ rows l → (r : Read ℕ) → AllGood byte_head Good levels_below n next 0 rest r
      → nothing_after n r ≡ halls outer m → (length l ≡ 0) × (outer ≡ 0)
  of_entries n next rest e (reached k end []) g q =
      let w = rows_skipped n next rest l e in
      let z : n ≡ 0 = clash n next rest l end w g in
      let same : n ≡ outer = cc in
      (w.same ∙ z, sym same ∙ z)
  of_entries n next rest e (reached k end (b ∷ u)) g q = let z : ◌≡◌ {A = ℕ} 0 1 = cc in absurd (omega arith)
  of_entries n next rest e (breach place) g q = let z : ◌≡◌ {A = ℕ} 0 1 = cc in absurd (omega arith)

  both : plan_of s ≡ rows l → halls_of s ≡ halls outer m → (length l ≡ 0) × (outer ≡ 0)
  unfolding plan_by halls_of
  both e q = go (ltb max_plan (length s)) (plan_number 0 s) e q
    where
      pick : (n next : ℕ) (rest : List ℕ) (t : Bool) → cond t (rows_from n next rest) (malformed 0) ≡ rows l
          → nothing_after n (entries_of byte_head levels_below n next 0 rest) ≡ halls outer m → (length l ≡ 0) × (outer ≡ 0)
      pick n next rest true a b =
          of_entries n next rest a (entries_of byte_head levels_below n next 0 rest)
          (reads_good byte_head Good good_none good_chute good_hall levels_below n next 0 rest) b
      pick n next rest false a b = let z : ◌≡◌ {A = ℕ} 0 1 = cc in absurd (omega arith)

      go : (t : Bool) (p : Parsed)
          → cond t (refused input_too_long 0) (after_number p (λ n next rest. cond (leb n max_rows) (rows_from n next rest) (malformed 0))) ≡ rows l
          → cond t (refused_halls input_too_long 0) (with_outer p) ≡ halls outer m → (length l ≡ 0) × (outer ≡ 0)
      go true p a b = let z : ◌≡◌ {A = ℕ} 0 1 = cc in absurd (omega arith)
      go false (value n next rest) a b = pick n next rest (leb n max_rows) a b
      go false (bad place) a b = let z : ◌≡◌ {A = ℕ} 0 1 = cc in absurd (omega arith)

pub not_both : (s : List ℕ) → (summary_of s).number ≡ done → (hall_summary_of s).number ≡ done → ((summary_of s).rows ≡ 0) × ((hall_summary_of s).outer ≡ 0)
unfolding summary_of hall_summary_of
not_both s e q = go (plan_of s) (halls_of s) refl refl (plan_numbered s) (halls-numbered s) e q
  where
    go : (p : Plan) (h : HallPlan) → plan_of s ≡ p → halls_of s ≡ h → Numbered p → NumberedHalls h → (summary p).number ≡ done
        → (hall_summary h).number ≡ done → ((summary p).rows ≡ 0) × ((hall_summary h).outer ≡ 0)
    go (rows l) (halls outer m) a b u w x y = both s l outer m a b
    go (rows l) (refused_halls n place) a b u w x y = absurd (omega arith)
    go (refused n place) h a b u w x y = absurd (omega arith)
