-- Plans by the two rules: rows that the present rule reads the old one reads alike, and rows that the old rule reads may be written and take no more bytes.
-- Both go by the rows one after another.
use mathlib.Core.Path.{◌≡◌, refl, ap}
use mathlib.Core.List.{List, [], ◌∷◌}
use mathlib.Core.Bool.{Bool, true, false, cond}
use Prim.Native.Nat.{ℕ, zero, suc, ◌+◌, ◌-◌, ◌≤◌}
use native.Mathlib.Omega.{arith}
use lib.ListN.{length, length-append, length-drop}
use lib.Dec.{ltb, leb}
use Rattle.answers.specs.Numbers.{input_too_long}
use Rattle.leb128.specs.Number.{Parsed, value, bad}
use Rattle.leb128_write.specs.Written.{written_number}
use Rattle.old_number.specs.OldNumber.{old_number}
use Rattle.old_number.specs.Laws.{OldUsed, old_used}
use Rattle.plan_read.specs.Limits.{max_plan, max_rows}
use Rattle.plan_read.specs.Plan.{Plan, rows, refused, malformed, row, cons_row, after_number, plan_number, rows_by, rows_from, plan_in, plan_in_by, plan_by, plan_of, row_destinations}
use Rattle.plan_read.specs.declared.Row.{Row}
use Rattle.plan_length.specs.Length.{written_rows, written_plan, allowed}
use Rattle.plan_length.specs.Laws.{plan_length}
use Rattle.plan_migration.specs.Migration.{old_plan_of}
use Rattle.plan_migration.proofs.Rows.{Readable, rows_readable}
use Rattle.migration_theorems.proofs.Numbers.{read_alike, Fewest, fewest}

-- where the first was read, the second is the same
abbrev Alike : Plan → Plan → Type 0
Alike (rows l) q = q ≡ rows l
Alike (refused n place) q = Unit

cons_alike : (r : Row) (p q : Plan) → Alike p q → Alike (cons_row r p) (cons_row r q)
cons_alike r (rows l) q e = ap (cons_row r) e
cons_alike r (refused n place) q e = tt

after_alike : (p q : Parsed) (f g : ℕ → ℕ → List ℕ → Plan) → ((v next : ℕ) (rest : List ℕ) → p ≡ value v next rest → q ≡ value v next rest)
    → ((v next : ℕ) (rest : List ℕ) → Alike (f v next rest) (g v next rest)) → Alike (after_number p f) (after_number q g)
after_alike (value v next rest) q f g e a = rw (e v next rest refl) (a v next rest)
after_alike (bad place) q f g e a = tt

rows_alike : (n at : ℕ) (s : List ℕ) → Alike (rows_from n at s) (rows_by old_number n at s)
unfolding rows_by
rows_alike zero at [] = refl
rows_alike zero at (b ∷ s) = tt
rows_alike (suc n) at s =
    after_alike (plan_number at s) (old_number at s) _ _ (λ v next rest e. read_alike at s v next rest e)
    (λ v next rest. cons_alike (row v at next) (rows_from n next rest) (rows_by old_number n next rest) (rows_alike n next rest))

plan_alike : (s : List ℕ) → Alike (plan_of s) (old_plan_of s)
unfolding plan_by
plan_alike s = long (ltb max_plan (length s))
  where
    most : (t : Bool) (p q : Plan) → Alike p q → Alike (cond t p (malformed 0)) (cond t q (malformed 0))
    most true p q a = a
    most false p q a = tt

    long : (t : Bool) → Alike (cond t (refused input_too_long 0) (plan_in s)) (cond t (refused input_too_long 0) (plan_in_by old_number s))
    long true = tt
    long false =
        after_alike (plan_number 0 s) (old_number 0 s) _ _ (λ v next rest e. read_alike 0 s v next rest e)
        (λ v next rest. most (leb v max_rows) (rows_from v next rest) (rows_by old_number v next rest) (rows_alike v next rest))

pub same_rows : (s : List ℕ) (l : List Row) → plan_of s ≡ rows l → old_plan_of s ≡ rows l
same_rows s l e = rw e at (plan_alike s)

-- rows that were read take no more bytes written
abbrev Shorter : ℕ → Plan → Type 0
Shorter n (rows l) = length (written_rows (row_destinations l)) ≤ n
Shorter n (refused k place) = Unit

cons_shorter : (n m : ℕ) (r : Row) (p : Plan) → length (written_number r.destination) + m ≤ n → Shorter m p → Shorter n (cons_row r p)
unfolding written_rows
cons_shorter n m r (rows l) h u = omega (arith, length-append (written_number r.destination) (written_rows (row_destinations l)))
cons_shorter n m r (refused k place) h u = tt

-- a number and the bytes after it
number_shorter : (at : ℕ) (s : List ℕ) (v n : ℕ) (rest : List ℕ) → OldUsed 2 at s (value v n rest) → Fewest 2 at (value v n rest)
    → length (written_number v) + length rest ≤ length s
number_shorter at s v n rest u f = omega (arith, u.some, u.inside, ap length u.left, length-drop (n - at) s)

rows_shorter : (n at : ℕ) (s : List ℕ) → Shorter (length s) (rows_by old_number n at s)
unfolding rows_by written_rows
rows_shorter zero at [] = omega arith
rows_shorter zero at (b ∷ s) = tt
rows_shorter (suc n) at s = go (old_number at s) (old_used 2 at s) (fewest 2 at s) (λ next rest. rows_shorter n next rest)
  where
    go : (p : Parsed) → OldUsed 2 at s p → Fewest 2 at p → ((next : ℕ) (rest : List ℕ) → Shorter (length rest) (rows_by old_number n next rest))
        → Shorter (length s) (after_number p (λ v next rest. cons_row (row v at next) (rows_by old_number n next rest)))
    go (value v next rest) u f ih =
        cons_shorter (length s) (length rest) (row v at next) (rows_by old_number n next rest) (number_shorter at s v next rest u f) (ih next rest)
    go (bad place) u f ih = tt

-- a plan that the old rule reads keeps the rules of writing, and is no shorter than its rows written
pub record OldPlan (s : List ℕ) (l : List Row) : Type 0 where
  pub keeps : allowed (row_destinations l) ≡ true
  pub no_longer : length (written_plan (row_destinations l)) ≤ length s

abbrev OldIs : List ℕ → Plan → Type 0
OldIs s (rows l) = OldPlan s l
OldIs s (refused n place) = Unit

plan_is : (s : List ℕ) → OldIs s (old_plan_of s)
unfolding plan_by allowed
plan_is s = long (ltb max_plan (length s)) (plan_in_by old_number s) (go (old_number 0 s) (old_used 2 0 s) (fewest 2 0 s))
  where
    long : (t : Bool) (p : Plan) → OldIs s p → OldIs s (cond t (refused input_too_long 0) p)
    long true p u = tt
    long false p u = u

    most : (t : Bool) (v : ℕ) (rest : List ℕ) (p : Plan) → leb v max_rows ≡ t → length (written_number v) + length rest ≤ length s → Readable v p
        → Shorter (length rest) p → OldIs s (cond t p (malformed 0))
    most true v rest (rows l) k h w z =
        record { keeps = rw (w.0, k) w.1; no_longer = rw (plan_length (row_destinations l), w.0) (omega arith) }
    most true v rest (refused n place) k h w z = tt
    most false v rest p k h w z = tt

    go : (p : Parsed) → OldUsed 2 0 s p → Fewest 2 0 p
        → OldIs s (after_number p (λ count next rest. cond (leb count max_rows) (rows_by old_number count next rest) (malformed 0)))
    go (value v next rest) u f =
        most (leb v max_rows) v rest (rows_by old_number v next rest) refl (number_shorter 0 s v next rest u f) (rows_readable v next rest)
        (rows_shorter v next rest)
    go (bad place) u f = tt

pub old_plan : (s : List ℕ) (l : List Row) → old_plan_of s ≡ rows l → OldPlan s l
old_plan s l e = rw e at (plan_is s)
