-- The place of a hall plan: by the entries that are read, over the levels, none of which leads back before its start or past the end.
use mathlib.Core.Path.{◌≡◌, refl}
use mathlib.Core.Logic.{inl, inr}
use mathlib.Core.List.{List, [], ◌∷◌}
use mathlib.Core.Bool.{Bool, true, false, cond}
use Prim.Native.Nat.{ℕ, zero, suc, ◌+◌, ◌≤◌}
use native.Mathlib.Omega.{arith}
use lib.ListN.{length, drop}
use lib.Dec.{ltb, eqb}
use Rattle.answers.specs.Numbers.{input_too_long, malformed_plan}
use Rattle.answers.specs.Breaches.{no_place, place_of}
use Rattle.leb128.specs.Number.{Parsed, value, bad}
use Rattle.plan_read.specs.Limits.{max_plan}
use Rattle.plan_read.specs.Plan.{plan_number}
use Rattle.hall_entry.specs.Limits.{levels_below}
use Rattle.hall_entry.specs.Entries.{
  Entry,
  entry,
  chute_kind,
  destinations,
  kind_allowed,
  Head,
  first,
  wrong,
  Read,
  reached,
  breach,
  prepend,
  and_then,
  after_head,
  entry_with,
  entries_with,
  inner_of,
  entries_of,
}
use Rattle.hall_entry.specs.Bytes.{valued, kind_breach, judged, byte_head}
use Rattle.hall_entry.specs.Laws.Heads.{kind_place}
use Rattle.hall_read.specs.Halls.{HallPlan, halls, refused, nothing_after, with_outer, halls_of}
use Rattle.hall.specs.Answers.{hall_summary, hall_summary_of}
use Rattle.place_theorems.specs.PlaceTheorems.{NumberFails, PlaceIn}
use Rattle.place_theorems.proofs.Plans.{RefusedAt, refused_in}
use Rattle.place_theorems.proofs.Numbers.{Bounded, number_fails, number_bounded, first_bounded}

-- an entry's two numbers lead from a place on and not past the most, and so do entries
abbrev HeadBounded : ℕ → ℕ → Head ℕ → Type 0
HeadBounded at most (first k v next rest) = (at ≤ next) × (next + length rest ≤ most)
HeadBounded at most (wrong place) = (at ≤ place) × (place ≤ most)

abbrev ReadBounded : ℕ → ℕ → Read ℕ → Type 0
ReadBounded at most (reached l next rest) = (at ≤ next) × (next + length rest ≤ most)
ReadBounded at most (breach place) = (at ≤ place) × (place ≤ most)

valued_bounded : (from at most k : ℕ) (rest : List ℕ) (p : Parsed) → from ≤ at → at + length rest ≤ most → Bounded at (at + length rest) p
    → HeadBounded from most (valued k p)
valued_bounded from at most k rest (value v next t) l h b = (omega (arith, b.0), omega (arith, b.1))
valued_bounded from at most k rest (bad place) l h b = (omega (arith, b.0), omega (arith, b.1))

head_bounded : (levels chutes at : ℕ) (s : List ℕ) → HeadBounded at (at + length s) (byte_head levels chutes at s)
unfolding byte_head
head_bounded levels chutes at s = go (plan_number at s) (number_bounded at s)
  where
    pick : (k next : ℕ) (rest : List ℕ) (t : Bool) → at + 1 ≤ next → next + length rest ≤ at + length s
        → HeadBounded at (at + length s) (cond t (valued k (plan_number next rest)) (wrong (place_of (kind_breach at k))))
    pick k next rest true l h = valued_bounded at next (at + length s) k rest (plan_number next rest) (omega arith) h (number_bounded next rest)
    pick k next rest false l h = rw (kind_place at k) (omega arith, omega arith)

    go : (p : Parsed) → Bounded at (at + length s) p → HeadBounded at (at + length s) (judged levels chutes at p)
    go (value k next rest) b = pick k next rest (kind_allowed levels chutes k) b.0 b.1
    go (bad place) b = b

read_wider : (from at least most : ℕ) (r : Read ℕ) → from ≤ at → least ≤ most → ReadBounded at least r → ReadBounded from most r
read_wider from at least most (reached l next rest) f h b = (omega (arith, b.0), omega (arith, b.1))
read_wider from at least most (breach place) f h b = (omega (arith, b.0), omega (arith, b.1))

prepend_bounded : (at most : ℕ) (l : List Entry) (r : Read ℕ) → ReadBounded at most r → ReadBounded at most (prepend l r)
prepend_bounded at most l (reached k next rest) b = b
prepend_bounded at most l (breach place) b = b

-- the entries of a hall, by those of the halls in it
abbrev InnerBounded : (ℕ → ℕ → ℕ → List ℕ → Read ℕ) → Type 0
InnerBounded inner = (n at chutes : ℕ) (s : List ℕ) → ReadBounded at (at + length s) (inner n at chutes s)

module _ (levels : ℕ) (inner : ℕ → ℕ → ℕ → List ℕ → Read ℕ) (i : InnerBounded inner) where
  entry_bounded : (at chutes : ℕ) (s : List ℕ) → ReadBounded at (at + length s) (entry_with byte_head levels inner at chutes s)
  entry_bounded at chutes s = go (byte_head levels chutes at s) (head_bounded levels chutes at s)
    where
      pick : (v next : ℕ) (rest : List ℕ) (t : Bool) → (at ≤ next) × (next + length rest ≤ at + length s)
          → ReadBounded at (at + length s) (cond t (reached [] next rest) (inner v next chutes rest))
      pick v next rest true b = b
      pick v next rest false b =
          read_wider at next (next + length rest) (at + length s) (inner v next chutes rest) b.0 b.1 (i v next chutes rest)

      go : (h : Head ℕ) → HeadBounded at (at + length s) h → ReadBounded at (at + length s) (after_head h (λ n next rest. inner n next chutes rest))
      go (first k v next rest) b =
          prepend_bounded at (at + length s) (entry k v ∷ []) (cond (eqb k chute_kind) (reached [] next rest) (inner v next chutes rest))
          (pick v next rest (eqb k chute_kind) b)
      go (wrong place) b = b

  hall_bounded : (n at chutes : ℕ) (s : List ℕ) → ReadBounded at (at + length s) (entries_with byte_head levels inner n at chutes s)
  unfolding entries_with
  hall_bounded zero at chutes s = (omega arith, omega arith)
  hall_bounded (suc n) at chutes s =
      go (entry_with byte_head levels inner at chutes s) (entry_bounded at chutes s) (λ next m rest. hall_bounded n next m rest)
    where
      go : (r : Read ℕ) → ReadBounded at (at + length s) r
          → ((next m : ℕ) (rest : List ℕ) → ReadBounded next (next + length rest) (entries_with byte_head levels inner n next m rest))
          → ReadBounded at (at + length s) (and_then r (λ l next rest. entries_with byte_head levels inner n next (chutes + length (destinations l)) rest))
      go (reached l next rest) b ih =
          let more = entries_with byte_head levels inner n next (chutes + length (destinations l)) rest in
          prepend_bounded at (at + length s) l more
          (read_wider at next (next + length rest) (at + length s) more b.0 b.1 (ih next (chutes + length (destinations l)) rest))
      go (breach place) b ih = b

inner_bounded : (levels : ℕ) → InnerBounded (inner_of byte_head levels)
unfolding inner_of
inner_bounded zero n at chutes s = (omega arith, omega arith)
inner_bounded (suc levels) n at chutes s = hall_bounded levels (inner_of byte_head levels) (inner_bounded levels) n at chutes s

-- a refused hall plan is too long or malformed, as a flat plan; and malformed at 0 only where it has no bytes
abbrev HallPlaced : List ℕ → HallPlan → Type 0
HallPlaced s (halls outer l) = Unit
HallPlaced s (refused n place) = RefusedAt (length s) n place × (n ≡ malformed_plan → place ≡ 0 → s ≡ [])

-- a breach after the outermost number is not at 0
later : (s : List ℕ) (place : ℕ) → 1 ≤ place → place ≤ length s → HallPlaced s (refused malformed_plan place)
later s place l h = (inr (refl, h), λ e z. absurd (omega arith))

ending_placed : (s : List ℕ) (outer at : ℕ) (r : Read ℕ) → 1 ≤ at → ReadBounded at (length s) r → HallPlaced s (nothing_after outer r)
ending_placed s outer at (reached l next []) h b = tt
ending_placed s outer at (reached l next (c ∷ rest)) h b = later s next (omega (arith, b.0)) (omega (arith, b.1))
ending_placed s outer at (breach place) h b = later s place (omega (arith, b.0)) b.1

no_bytes : (s : List ℕ) → length s ≡ 0 → s ≡ []
no_bytes [] e = refl
no_bytes (b ∷ s) e = absurd (omega arith)

hall_placed : (s : List ℕ) → HallPlaced s (halls_of s)
unfolding halls_of
hall_placed s = long (ltb max_plan (length s)) (with_outer (plan_number 0 s)) (go (plan_number 0 s) refl (first_bounded s))
  where
    long : (t : Bool) (p : HallPlan) → HallPlaced s p → HallPlaced s (cond t (refused input_too_long no_place) p)
    long true p u = (inl (refl, refl), λ e z. absurd (omega arith))
    long false p u = u

    at_zero : (place : ℕ) → NumberFails s 0 place → place ≡ 0 → s ≡ []
    at_zero place (inl f) z = no_bytes s (omega (arith, f.0))
    at_zero place (inr (inl f)) z = absurd (omega (arith, f.0))
    at_zero place (inr (inr f)) z = absurd (omega (arith, f.0))

    go : (p : Parsed) → plan_number 0 (drop 0 s) ≡ p → Bounded 0 (length s) p → HallPlaced s (with_outer p)
    go (value n next rest) e b =
        let r = entries_of byte_head levels_below n next 0 rest in
        ending_placed s n next r (omega (arith, b.0))
        (read_wider next next (next + length rest) (length s) r (omega arith) b.1
        (hall_bounded levels_below (inner_of byte_head levels_below) (inner_bounded levels_below) n next 0 rest))
    go (bad place) e b = (inr (refl, b.1), λ n z. at_zero place (number_fails s 0 place (omega arith) e) z)

pub halls_place : (s : List ℕ) → PlaceIn s (hall_summary_of s).number (hall_summary_of s).place
unfolding hall_summary_of
halls_place s = go (halls_of s) (hall_placed s)
  where
    go : (p : HallPlan) → HallPlaced s p → PlaceIn s (hall_summary p).number (hall_summary p).place
    go (halls outer l) u = record { within = omega arith; malformed_alone = λ z. refl }
    go (refused n place) u = refused_in s n place u.0

pub empty_alone : (s : List ℕ) → (hall_summary_of s).number ≡ malformed_plan → (hall_summary_of s).place ≡ 0 → s ≡ []
unfolding hall_summary_of
empty_alone s = go (halls_of s) (hall_placed s)
  where
    go : (p : HallPlan) → HallPlaced s p → (hall_summary p).number ≡ malformed_plan → (hall_summary p).place ≡ 0 → s ≡ []
    go (halls outer l) u e z = absurd (omega arith)
    go (refused n place) u e z = u.1 e z
