-- The code's answer for an entry, from the number of its kind.
use Rattle.std.proofs.Common.{◌≡◌, refl, sym, ap, ◌∙◌, List, Bool, true, false, cond, ℕ, ◌≤◌, drop, Option, Some, None, Result, Ok, Err}
use Rattle.answers.specs.declared.Malformed.{Malformed}
use Rattle.leb128.specs.Number.{Parsed, value, bad}
use Rattle.leb128.specs.Answers.{number_answer, ReadsNumber}
use Rattle.leb128.specs.Laws.Reading.{Rest, groups_rest}
use Rattle.leb128.specs.declared.Number.{Number}
use Rattle.plan_read.specs.Plan.{plan_number}
use Rattle.hall_entry.specs.Entries.{kind_allowed, Head, first, wrong}
use Rattle.hall_entry.specs.Bytes.{valued, judged, byte_head}
use Rattle.hall_entry.specs.Laws.Heads.{kind_known, kind_back, kind_place}
use Rattle.hall_entry.specs.Answers.{kind_number, kind_of, allowed_kind, head_answer, ReadsEntry}
use Rattle.hall_entry.specs.declared.EntryRead.{EntryRead}
use Rattle.hall_entry.specs.declared.Kind.{Kind}

module _ (s : List ℕ) (levels chutes at : ℕ) where
  -- what is read where the number of the kind cannot be read
  pub no_kind : (m : Malformed) → ReadsNumber (plan_number at (drop at s)) (Err m) → ReadsEntry (byte_head levels chutes at (drop at s)) (Err m)
  unfolding byte_head
  no_kind m r = go (plan_number at (drop at s)) r.answer
    where
      go : (p : Parsed) → Err m ≡ number_answer p → ReadsEntry (judged levels chutes at p) (Err m)
      go (value k next rest) e = absurd cc
      go (bad place) e = let q : m ≡ record { place = place } = cc in rw q (record { answer = refl; values = refl })

  module _ (n : Number) (r : ReadsNumber (plan_number at (drop at s)) (Ok n)) where
    -- where the kind of that number may not stand
    pub other_kind : None ≡ allowed_kind levels chutes n.value → ReadsEntry (byte_head levels chutes at (drop at s)) (Err (record { place = at }))
    unfolding byte_head
    other_kind none = go (plan_number at (drop at s)) r.answer
      where
        pick : (b : Bool) (k : ℕ) (h : Head ℕ) → None ≡ cond b (Some (kind_of k)) None → ReadsEntry (cond b h (wrong at)) (Err (record { place = at }))
        pick true k h e = absurd cc
        pick false k h e = record { answer = refl; values = refl }

        go : (p : Parsed) → Ok n ≡ number_answer p → ReadsEntry (judged levels chutes at p) (Err (record { place = at }))
        go (value k next rest) e =
            let q : n.value ≡ k = cc in
            rw (kind_place at k) (pick (kind_allowed levels chutes k) k (valued k (plan_number next rest)) (rw q at none))
        go (bad place) e = absurd cc

    -- and where it may: the value that follows
    pub allowed : (kind : Kind) (x : Result EntryRead Malformed) → Some kind ≡ allowed_kind levels chutes n.value
        → x ≡ head_answer (valued (kind_number kind) (plan_number n.next (drop n.next s))) → ReadsEntry (byte_head levels chutes at (drop at s)) x
    unfolding byte_head
    allowed kind x some same = go (plan_number at (drop at s)) (groups_rest true 2 at s) r.answer
      where
        read : (k : ℕ) (p : Parsed) → k ≤ 1 → kind ≡ kind_of k → x ≡ head_answer (valued (kind_number kind) p) → ReadsEntry (valued k p) x
        read k (value v next rest) h e f = let b = kind_back k h in rw (f, e) (record { answer = rw b; values = rw (b, b) })
        read k (bad place) h e f = rw f (record { answer = refl; values = refl })

        pick : (b : Bool) (k : ℕ) (p : Parsed) → kind_allowed levels chutes k ≡ b → Some kind ≡ cond b (Some (kind_of k)) None
            → x ≡ head_answer (valued (kind_number kind) p) → ReadsEntry (cond b (valued k p) (wrong at)) x
        pick true k p a e f = read k p (kind_known levels chutes k a).small (cc) f
        pick false k p a e f = absurd cc

        go : (p : Parsed) → Rest at s p → Ok n ≡ number_answer p → ReadsEntry (judged levels chutes at p) x
        go (value k next rest) t e =
            let q : n.value ≡ k = cc in
            let m : n.next ≡ next = cc in
            rw (t.1, kind_place at k)
            (pick (kind_allowed levels chutes k) k (plan_number next (drop next s)) refl (rw q at some) (rw m at same))
        go (bad place) t e = absurd cc
