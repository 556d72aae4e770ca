-- An entry in bytes (docs/RULES.md, 'Hall plan'): the number of its kind, judged once it is read, and then its value. A number is that of flat plans.
use Rattle.std.specs.Prelude.{ℕ, zero, suc, List, cond}
use Rattle.answers.specs.Breaches.{Breach, unknown_kind, level_too_deep, too_many_chutes, place_of}
use Rattle.leb128.specs.Number.{Parsed, value, bad}
use Rattle.plan_read.specs.Plan.{plan_number}
use Rattle.hall_entry.specs.Entries.{kind_allowed, Head, first, wrong}

-- an entry of the kind k, by the number that follows
abbrev pub valued : ℕ → Parsed → Head ℕ
valued k (value v next rest) = first k v next rest
valued k (bad place) = wrong place

-- the breach of an entry at the place `at` whose kind may not stand there: a chute beyond the last, a hall beyond the last level, or of no kind
abbrev pub kind_breach : ℕ → ℕ → Breach
kind_breach at zero = too_many_chutes at
kind_breach at (suc zero) = level_too_deep at
kind_breach at (suc (suc k)) = unknown_kind at

abbrev pub judged : ℕ → ℕ → ℕ → Parsed → Head ℕ
judged levels chutes at (value k next rest) =
    cond (kind_allowed levels chutes k) (valued k (plan_number next rest)) (wrong (place_of (kind_breach at k)))
judged levels chutes at (bad place) = wrong place

unfoldable pub byte_head : ℕ → ℕ → ℕ → List ℕ → Head ℕ
byte_head levels chutes at s = judged levels chutes at (plan_number at s)

-- where either kind may stand: a level is left, and no chute stands before
abbrev pub entry_head : ℕ → List ℕ → Head ℕ
entry_head at s = byte_head 1 0 at s
