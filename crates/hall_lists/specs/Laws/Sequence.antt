-- Laws of entries one after another: the entries of a hall plan are these.
use Rattle.std.specs.Prelude.{◌≡◌, refl, List, [], ◌∷◌, ◌++◌, Bool, true, false, cond, ℕ, zero, suc, ◌+◌, ◌≤◌, length, drop, ltb}
use Rattle.std.proofs.Common.{ap, ◌∙◌, append-nil, append_assoc, arith, length-append}
use Rattle.answers.specs.Numbers.{input_too_long}
use Rattle.answers.specs.Breaches.{place_of}
use Rattle.leb128.specs.Number.{Parsed, value, bad}
use Rattle.plan_read.specs.Limits.{max_plan}
use Rattle.plan_read.specs.Plan.{plan_number}
use Rattle.hall_entry.specs.Limits.{max_chutes, levels_below}
use Rattle.hall_entry.specs.Entries.{Entry, entry, chute_kind, kind_allowed, Head, first, wrong, Read, reached, breach, entries_of}
use Rattle.hall_entry.specs.Bytes.{valued, kind_breach, judged, byte_head, entry_head}
use Rattle.hall_entry.specs.Laws.Induction.{AllGood, reads_good}
use Rattle.hall_entry.specs.Laws.Bytes.{NumberAfter, number_inside}
use Rattle.hall_read.specs.Halls.{HallPlan, halls, refused, nothing_after, with_outer, halls_of}
use Rattle.hall_lists.specs.Sequence.{entries_start, in_sequence}

-- an entry that may stand somewhere stands first where nothing limits it
free_zero : (b : Bool) (h : Head ℕ) (place k v next : ℕ) (rest : List ℕ) → cond b h (wrong place) ≡ first k v next rest → h ≡ first k v next rest
free_zero true h place k v next rest e = e
free_zero false h place k v next rest e = cc

free_kind : (levels chutes place j : ℕ) (h : Head ℕ) (k v next : ℕ) (rest : List ℕ)
    → cond (kind_allowed levels chutes j) h (wrong place) ≡ first k v next rest → cond (kind_allowed 1 0 j) h (wrong place) ≡ first k v next rest
free_kind levels chutes place zero h k v next rest e = free_zero (ltb chutes max_chutes) h place k v next rest e
free_kind levels chutes place (suc zero) h k v next rest e = free_zero (ltb 0 levels) h place k v next rest e
free_kind levels chutes place (suc (suc j)) h k v next rest e = e

free_head : (levels chutes at : ℕ) (s : List ℕ) (k v next : ℕ) (rest : List ℕ) → byte_head levels chutes at s ≡ first k v next rest
    → entry_head at s ≡ first k v next rest
unfolding byte_head
free_head levels chutes at s k v next rest e = go (plan_number at s) e
  where
    go : (p : Parsed) → judged levels chutes at p ≡ first k v next rest → judged 1 0 at p ≡ first k v next rest
    go (value j n t) q = free_kind levels chutes (place_of (kind_breach at j)) j (valued j (plan_number n t)) k v next rest q
    go (bad place) q = q

-- what was read from s on is what stands there one after another
abbrev SequenceRead : (levels n at chutes : ℕ) → List ℕ → List Entry → ℕ → List ℕ → Type 0
SequenceRead levels n at chutes s l next rest = (m : ℕ) → in_sequence (length l + m) at s ≡ l ++ in_sequence m next rest

sequence_first : (levels chutes at : ℕ) (s : List ℕ) (k v mid : ℕ) (t : List ℕ) (l : List Entry) (m : ℕ) → byte_head levels chutes at s ≡ first k v mid t
    → in_sequence (suc (length l) + m) at s ≡ entry k v ∷ in_sequence (length l + m) mid t
unfolding in_sequence
sequence_first levels chutes at s k v mid t l m e =
    let z : suc (length l) + m ≡ suc (length l + m) = omega arith in
    rw (z, free_head levels chutes at s k v mid t e)

sequence_entries : (levels n at chutes : ℕ) (s : List ℕ) → AllGood byte_head SequenceRead levels n at chutes s (entries_of byte_head levels n at chutes s)
sequence_entries =
    reads_good byte_head SequenceRead
    (λ levels at chutes s m. let z : 0 + m ≡ m = omega arith in rw z)
    (λ levels n at chutes s v mid t l next rest e g m.
    sequence_first levels chutes at s chute_kind v mid t l m e ∙ ap (λ (x : List Entry). entry chute_kind v ∷ x) (g m))
    (λ levels n at chutes s k v mid t inner past u l next rest e o i g m.
    let z : length inner + length l + m ≡ length inner + (length l + m) = omega arith in
    sequence_first (suc levels) chutes at s k v mid t (inner ++ l) m e
    ∙ ap (λ (x : List Entry). entry k v ∷ x)
    (rw (length-append inner l, z, append_assoc inner l (in_sequence m next rest)) (i (length l + m) ∙ ap (λ (x : List Entry). inner ++ x) (g m))))

-- of a whole hall plan
abbrev pub SequencePlan : List ℕ → HallPlan → Type 0
SequencePlan s (halls outer l) = let start = entries_start (plan_number 0 s) in (start ≤ length s) × (in_sequence (length l) start (drop start s) ≡ l)
SequencePlan s (refused n place) = Unit

sequence_ending : (s : List ℕ) (outer at : ℕ) (t : List ℕ) (r : Read ℕ) → entries_start (plan_number 0 s) ≡ at → at ≤ length s → t ≡ drop at s
    → AllGood byte_head SequenceRead levels_below outer at 0 t r → SequencePlan s (nothing_after outer r)
unfolding in_sequence
sequence_ending s outer at t (reached l next []) e h q f =
    let z : length l + 0 ≡ length l = omega arith in
    let w : in_sequence (length l) at t ≡ l = rw z at (f 0) ∙ append-nil l in
    rw e (h, rw (← q) w)
sequence_ending s outer at t (reached l next (b ∷ rest)) e h q f = tt
sequence_ending s outer at t (breach place) e h q f = tt

sequence_outer : (s : List ℕ) (p : Parsed) → plan_number 0 s ≡ p → NumberAfter s 0 p → SequencePlan s (with_outer p)
sequence_outer s (value n next rest) e u =
    sequence_ending s n next rest (entries_of byte_head levels_below n next 0 rest) (ap entries_start e) u.inside u.left
    (sequence_entries levels_below n next 0 rest)
sequence_outer s (bad place) e u = tt

pub sequence_plan : (s : List ℕ) → SequencePlan s (halls_of s)
unfolding halls_of
sequence_plan s = go (ltb max_plan (length s))
  where
    go : (b : Bool) → SequencePlan s (cond b (refused input_too_long 0) (with_outer (plan_number 0 s)))
    go true = tt
    go false = sequence_outer s (plan_number 0 s) refl (number_inside s 0)
