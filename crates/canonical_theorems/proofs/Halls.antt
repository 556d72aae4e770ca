-- Hall plans have one form: each number that is read is the number written, and so each entry is its kind and its value written, and the entries of all halls
-- one after another are the entries written. By induction over entries that are read.
use mathlib.Core.Path.{◌≡◌, refl, ap, ◌∙◌}
use mathlib.Core.List.{List, [], ◌∷◌, ◌++◌, append_assoc, append-nil}
use mathlib.Core.Bool.{Bool, true, false, cond}
use Prim.Native.Nat.{ℕ, suc, ◌≤◌}
use lib.ListN.{length}
use lib.Dec.{ltb}
use borrow.Author.Tests.{ltb-false}
use Rattle.answers.specs.Numbers.{input_too_long}
use Rattle.answers.specs.Breaches.{no_place, place_of}
use Rattle.encode.specs.Laws.Bytes.{Bytes}
use Rattle.leb128.specs.Number.{Parsed, value, bad}
use Rattle.leb128_write.specs.Written.{written_number}
use Rattle.leb128_write.proofs.FormLaws.{Form, groups_form}
use Rattle.plan_read.specs.Limits.{max_plan}
use Rattle.plan_read.specs.Plan.{plan_number}
use Rattle.hall_entry.specs.Limits.{levels_below}
use Rattle.hall_entry.specs.Entries.{Entry, entry, chute_kind, kind_allowed, Head, first, wrong, Read, reached, breach, entries_of}
use Rattle.hall_entry.specs.Bytes.{valued, kind_breach, judged, byte_head}
use Rattle.hall_entry.specs.Laws.Induction.{AllGood, WithNone, WithChute, WithHall, reads_good}
use Rattle.hall_read.specs.Halls.{HallPlan, halls, refused, nothing_after, with_outer, halls_of}
use Rattle.hall_length.specs.Written.{written_entries, written_halls}

-- an entry that stands first: its kind and its value written, and then the rest
abbrev HeadForm : List ℕ → Head ℕ → Type 0
HeadForm s (first k v next rest) = (s ≡ written_number k ++ (written_number v ++ rest)) × Bytes rest
HeadForm s (wrong place) = Unit

head_form : (levels chutes at : ℕ) (s : List ℕ) → Bytes s → HeadForm s (byte_head levels chutes at s)
unfolding byte_head
head_form levels chutes at s h = go (plan_number at s) (groups_form true 2 at s h)
  where
    with_value : (k mid : ℕ) (t : List ℕ) (p : Parsed) → s ≡ written_number k ++ t → Form true 2 mid t p → HeadForm s (valued k p)
    with_value k mid t (value v next rest) e f = (e ∙ ap (λ (u : List ℕ). written_number k ++ u) f.bytes, f.others)
    with_value k mid t (bad place) e f = tt

    pick : (b : Bool) (k mid : ℕ) (t : List ℕ) → s ≡ written_number k ++ t → Bytes t
        → HeadForm s (cond b (valued k (plan_number mid t)) (wrong (place_of (kind_breach at k))))
    pick true k mid t e i = with_value k mid t (plan_number mid t) e (groups_form true 2 mid t i)
    pick false k mid t e i = tt

    go : (p : Parsed) → Form true 2 at s p → HeadForm s (judged levels chutes at p)
    go (value k mid t) f = pick (kind_allowed levels chutes k) k mid t f.bytes f.others
    go (bad place) f = tt

-- entries: those read written, and then the rest
abbrev EntriesForm : (levels n at chutes : ℕ) → List ℕ → List Entry → ℕ → List ℕ → Type 0
EntriesForm levels n at chutes s l next rest = Bytes s → (s ≡ written_entries l ++ rest) × Bytes rest

written_append : (l m : List Entry) → written_entries (l ++ m) ≡ written_entries l ++ written_entries m
unfolding written_entries
written_append [] m = refl
written_append (e ∷ l) m =
    rw (
      written_append l m,
      append_assoc (written_number e.kind) (written_number e.value ++ written_entries l) (written_entries m),
      append_assoc (written_number e.value) (written_entries l) (written_entries m),
    )

-- one entry more before others
one_more : (s t rest : List ℕ) (k v : ℕ) (l : List Entry) → s ≡ written_number k ++ (written_number v ++ t) → t ≡ written_entries l ++ rest
    → s ≡ written_entries (entry k v ∷ l) ++ rest
unfolding written_entries
one_more s t rest k v l e g =
    e
    ∙ rw (
      g,
      append_assoc (written_number k) (written_number v ++ written_entries l) rest,
      append_assoc (written_number v) (written_entries l) rest,
    )

with_none : WithNone byte_head EntriesForm
unfolding written_entries
with_none levels at chutes s h = (refl, h)

with_chute : WithChute byte_head EntriesForm
with_chute levels n at chutes s v mid t l next rest e g h =
    let w : HeadForm s (first chute_kind v mid t) = rw e at (head_form levels chutes at s h) in
    let r = g w.1 in
    (one_more s t rest chute_kind v l w.0 r.0, r.1)

with_hall : WithHall byte_head EntriesForm
with_hall levels n at chutes s k v mid t inner past u l next rest e o i g h =
    let w : HeadForm s (first k v mid t) = rw e at (head_form (suc levels) chutes at s h) in
    let a = i w.1 in
    let r = g a.1 in
    let both : t ≡ written_entries (inner ++ l) ++ rest =
    a.0 ∙ rw (r.0, written_append inner l, append_assoc (written_entries inner) (written_entries l) rest) in
    (one_more s t rest k v (inner ++ l) w.0 both, r.1)

-- a hall plan: its outermost number and its entries written, and no more bytes than a plan may have
pub record HallsFormOf (s : List ℕ) (outer : ℕ) (l : List Entry) : Type 0 where
  pub bytes : s ≡ written_halls outer l
  pub short : length s ≤ max_plan

abbrev HallsForm : List ℕ → HallPlan → Type 0
HallsForm s (halls outer l) = HallsFormOf s outer l
HallsForm s (refused n place) = Unit

halls_form : (s : List ℕ) → Bytes s → HallsForm s (halls_of s)
unfolding halls_of written_halls
halls_form s h = long (ltb max_plan (length s)) refl
  where
    ending : (outer at : ℕ) (t : List ℕ) (r : Read ℕ) → length s ≤ max_plan → s ≡ written_number outer ++ t → Bytes t
        → AllGood byte_head EntriesForm levels_below outer at 0 t r → HallsForm s (nothing_after outer r)
    ending outer at t (reached l next []) k e i g =
        record { bytes = e ∙ ap (λ (u : List ℕ). written_number outer ++ u) ((g i).0 ∙ append-nil (written_entries l)); short = k }
    ending outer at t (reached l next (b ∷ rest)) k e i g = tt
    ending outer at t (breach place) k e i g = tt

    go : (p : Parsed) → length s ≤ max_plan → Form true 2 0 s p → HallsForm s (with_outer p)
    go (value n next rest) k f =
        ending n next rest (entries_of byte_head levels_below n next 0 rest) k f.bytes f.others
        (reads_good byte_head EntriesForm with_none with_chute with_hall levels_below n next 0 rest)
    go (bad place) k f = tt

    long : (t : Bool) → ltb max_plan (length s) ≡ t → HallsForm s (cond t (refused input_too_long no_place) (with_outer (plan_number 0 s)))
    long true e = tt
    long false e = go (plan_number 0 s) (ltb-false _ _ e) (groups_form true 2 0 s h)

-- of bytes that read as halls
module _ (s : List ℕ) (outer : ℕ) (l : List Entry) (h : Bytes s) (e : halls_of s ≡ halls outer l) where
  form : HallsFormOf s outer l
  form = rw e at (halls_form s h)

  pub halls_written : s ≡ written_halls outer l
  halls_written = form.bytes

  pub halls_short : length s ≤ max_plan
  halls_short = form.short
