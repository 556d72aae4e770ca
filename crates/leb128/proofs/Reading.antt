-- Laws of a number read group by group: what `groups` is at a place of a list by the byte there.
use mathlib.Core.Path.{◌≡◌, refl, sym, ◌∙◌}
use mathlib.Core.List.{List, ◌∷◌}
use mathlib.Core.Bool.{Bool, true, false, ◌||◌}
use Prim.Native.Nat.{ℕ, zero, suc, ◌+◌, ◌%◌, ◌≤◌, ◌<◌}
use native.Mathlib.Numerals.{add-one}
use lib.ListN.{length, get_or, drop, drop_of_length-le}
use lib.Seq.{drop-cons}
use lib.Dec.{ltb}
use borrow.Author.Tests.{lt-ltb, le-ltb}
use Rattle.leb128.specs.Number.{Parsed, value, bad, last_group, next_group, groups}
use Rattle.leb128.specs.Answers.{ReadsNumber}
use Rattle.std.specs.Prelude.{Ok, Err}

-- the answer, by what was read
pub read_value : (p : Parsed) (v next : ℕ) (rest : List ℕ) → value v next rest ≡ p → ReadsNumber p (Ok (record { value = v; next = next }))
read_value p v next rest e = rw (← e) (record { answer = refl; values = refl })

pub read_bad : (p : Parsed) (place : ℕ) → bad place ≡ p → ReadsNumber p (Err (record { place = place }))
read_bad p place e = rw (← e) (record { answer = refl; values = refl })

-- the byte at a place, and the list from the next place on
here : (at : ℕ) (s : List ℕ) → at < length s → drop at s ≡ get_or s at 0 ∷ drop (at + 1) s
here at s h = rw (add-one, drop-cons s at 0)

-- the groups from a place on
module _ (is_first : Bool) (more at group : ℕ) (s : List ℕ) where
  abbrev to_come : Parsed
  to_come = groups is_first more at (drop at s)

  pub group_end : length s ≤ at → bad at ≡ to_come
  unfolding groups
  group_end h = rw drop_of_length-le

  module _ (h : at < length s) (e : group ≡ get_or s at 0) where
    ends : group < 128 → last_group is_first group at (drop (at + 1) s) ≡ to_come
    unfolding groups
    ends l = go more
      where
        go : (m : ℕ) → last_group is_first group at (drop (at + 1) s) ≡ groups is_first m at (drop at s)
        go zero = rw (here at s h, ← e, lt-ltb _ _ l)
        go (suc m) = rw (here at s h, ← e, lt-ltb _ _ l)

    pub group_last : group < 128 → (is_first || ltb 0 group) ≡ true → value group (at + 1) (drop (at + 1) s) ≡ to_come
    group_last l ok = sym (sym (ends l) ∙ rw ok)

    pub group_empty : group < 128 → (is_first || ltb 0 group) ≡ false → bad at ≡ to_come
    group_empty l over = sym (sym (ends l) ∙ rw over)

    pub group_over : 128 ≤ group → more ≡ 0 → bad at ≡ to_come
    unfolding groups
    group_over l z = rw (z, here at s h, ← e, le-ltb _ _ l)

    pub group_more : 128 ≤ group
        → next_group (group % 128) (groups false more (at + 1) (drop (at + 1) s)) ≡ groups is_first (suc more) at (drop at s)
    unfolding groups
    group_more l = rw (here at s h, ← e, le-ltb _ _ l)
