-- Laws of an entry in bytes: the entry that stands first at a place of the plan ends inside it.
use Rattle.std.specs.Prelude.{◌≡◌, refl, List, Bool, true, false, cond, ℕ, ◌+◌, ◌≤◌, length, drop}
use Rattle.std.proofs.Common.{arith, length-drop}
use Rattle.answers.specs.Breaches.{place_of}
use Rattle.leb128.specs.Number.{Parsed, value, bad, max_number}
use Rattle.leb128.specs.Laws.Reading.{Used, groups_used, Rest, groups_rest, limit_three}
use Rattle.plan_read.specs.Plan.{plan_number}
use Rattle.hall_entry.specs.Entries.{kind_allowed, wrong}
use Rattle.hall_entry.specs.Bytes.{valued, kind_breach, judged, byte_head}
use Rattle.hall_entry.specs.Laws.Heads.{Kind, kind_known, HeadAfter}

module _ (s : List ℕ) where
  -- a number that is read at a place inside s ends inside s
  pub record NumberInside (at v next : ℕ) (rest : List ℕ) : Type 0 where
    pub small : v ≤ max_number
    pub past : at + 1 ≤ next
    pub inside : next ≤ length s
    pub left : rest ≡ drop next s

  abbrev pub NumberAfter : ℕ → Parsed → Type 0
  NumberAfter at (value v next rest) = NumberInside at v next rest
  NumberAfter at (bad place) = Unit

  pub number_inside : (at : ℕ) → NumberAfter at (plan_number at (drop at s))
  number_inside at = go (plan_number at (drop at s)) (groups_used true 2 at (drop at s)) (groups_rest true 2 at s)
    where
      go : (p : Parsed) → Used true 2 at (drop at s) p → Rest at s p → NumberAfter at p
      go (value v next rest) u r =
          record {
            small = omega (arith, limit_three, u.below);
            past = u.some;
            inside = omega (arith, length-drop at s, u.inside);
            left = r.1;
          }
      go (bad place) u r = tt

  valued_inside : (levels chutes at k next : ℕ) (p : Parsed) → Kind levels chutes k → at + 1 ≤ next → NumberAfter next p
      → HeadAfter s levels chutes at (valued k p)
  valued_inside levels chutes at k next (value v past rest) kind h u =
      record { kind = kind; small = u.small; past = omega (arith, u.past); inside = u.inside; left = u.left }
  valued_inside levels chutes at k next (bad place) kind h u = tt

  judged_inside : (levels chutes at : ℕ) (p : Parsed) → NumberAfter at p → HeadAfter s levels chutes at (judged levels chutes at p)
  judged_inside levels chutes at (value k next rest) u = rw u.left (go (kind_allowed levels chutes k) refl)
    where
      go : (b : Bool) → kind_allowed levels chutes k ≡ b
          → HeadAfter s levels chutes at (cond b (valued k (plan_number next (drop next s))) (wrong (place_of (kind_breach at k))))
      go true e =
          valued_inside levels chutes at k next (plan_number next (drop next s)) (kind_known levels chutes k e) u.past (number_inside next)
      go false e = tt
  judged_inside levels chutes at (bad place) u = tt

  pub byte_heads : (levels chutes at : ℕ) → HeadAfter s levels chutes at (byte_head levels chutes at (drop at s))
  unfolding byte_head
  byte_heads levels chutes at = judged_inside levels chutes at (plan_number at (drop at s)) (number_inside at)
