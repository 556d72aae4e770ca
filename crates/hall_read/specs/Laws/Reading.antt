-- Laws of entries read one after another from any list: where reading ends, what a turn of the hall reader does, and what an entry holds.
use Rattle.std.specs.Prelude.{◌≡◌, refl, List, [], ◌∷◌, drop, Ok, Err}
use Rattle.std.proofs.Common.{sym, ◌∙◌, length-append, ne_eqb}
use Rattle.std.proofs.Math.Path.{ap}
use Prim.Native.Nat.{ℕ, zero, suc, ◌+◌, ◌-◌, ◌≤◌, ◌<◌}
use native.Mathlib.Omega.{arith}
use Rattle.std.proofs.Math.ListN.{length}
use Rattle.hall_entry.specs.Entries.{
  Entry,
  entry,
  chute_kind,
  destinations,
  Head,
  first,
  wrong,
  Read,
  reached,
  breach,
  entries_with,
  inner_of,
  entries_of,
  entry_of,
}
use Rattle.hall_entry.specs.Laws.Heads.{HeadAfter}
use Rattle.hall_entry.specs.Laws.Induction.{entry_alone, AllGood, reads_good}
use Rattle.hall_read.specs.Passing.{moved_past, passed_over, inside_hall, ProgressIn}
use Rattle.hall_read.specs.declared.Progress.{Progress}
use Rattle.answers.specs.declared.Malformed.{Malformed}
use Rattle.hall_read.specs.Laws.Kept.{passed_prepend, moved_none, moved_hall}

module _ {A : Type 0} (s : List A) where
  -- entries were read from the place `at` of s on, at least `least` of them
  pub record EntriesIn (least at : ℕ) (l : List Entry) (next : ℕ) (rest : List A) : Type 0 where
    pub some : least ≤ length l
    pub past : at + length l ≤ next
    pub inside : at ≤ length s → next ≤ length s
    pub left : rest ≡ drop next s

  abbrev pub After : ℕ → ℕ → Read A → Type 0
  After least at (reached l next rest) = EntriesIn least at l next rest
  After least at (breach place) = Unit

  -- `heads` tells what stands first at the places that are covered: those inside the list, and it may be more
  module _ (head : ℕ → ℕ → ℕ → List A → Head A) (Covered : ℕ → Type 0) (covers : (at : ℕ) → at ≤ length s → Covered at)
      (heads : (levels chutes at : ℕ) → Covered at → HeadAfter s levels chutes at (head levels chutes at (drop at s))) where
    abbrev Good : (levels n at chutes : ℕ) → List A → List Entry → ℕ → List A → Type 0
    Good levels n at chutes t l next rest = Covered at → t ≡ drop at s → EntriesIn n at l next rest

    -- what stands first at a place of s
    here : (levels chutes at k v mid : ℕ) (t u : List A) → Covered at → t ≡ drop at s → head levels chutes at t ≡ first k v mid u
        → (at + 1 ≤ mid) × ((mid ≤ length s) × (u ≡ drop mid s))
    here levels chutes at k v mid t u h d e =
        let q : head levels chutes at (drop at s) ≡ first k v mid u = rw d at e in
        let f : HeadAfter s levels chutes at (first k v mid u) = rw q at (heads levels chutes at h) in
        (f.past, (f.inside, f.left))

    pub after_hall : (levels n at chutes : ℕ) → Covered at → After n at (entries_of head levels n at chutes (drop at s))
    after_hall levels n at chutes h = whole (entries_of head levels n at chutes (drop at s)) all
      where
        all : AllGood head Good levels n at chutes (drop at s) (entries_of head levels n at chutes (drop at s))
        all =
            reads_good head Good
            (λ levels at chutes t h d. record { some = omega arith; past = omega arith; inside = λ i. i; left = d })
            (λ levels n at chutes t v mid u l next rest e g h d.
            let f = here levels chutes at chute_kind v mid t u h d e in
            let r = g (covers mid f.1.0) f.1.1 in
            record { some = omega (arith, r.some); past = omega (arith, r.past, f.0); inside = λ j. r.inside f.1.0; left = r.left })
            (λ levels n at chutes t k v mid u inner past w l next rest e o i g h d.
            let f = here (suc levels) chutes at k v mid t u h d e in
            let p = i (covers mid f.1.0) f.1.1 in
            let r = g (covers past (p.inside f.1.0)) p.left in
            record {
              some = omega (arith, r.some, length-append inner l);
              past = omega (arith, r.past, p.past, f.0, length-append inner l);
              inside = λ j. r.inside (p.inside f.1.0);
              left = r.left;
            })
            levels n at chutes (drop at s)

        whole : (r : Read A) → AllGood head Good levels n at chutes (drop at s) r → After n at r
        whole (reached l next rest) g = g h refl
        whole (breach place) g = tt

    pub after_entry : (levels at chutes : ℕ) → Covered at → After 1 at (entry_of head levels at chutes (drop at s))
    after_entry levels at chutes h = rw (← entry_alone head levels at chutes (drop at s)) (after_hall levels 1 at chutes h)

    -- from the pass's answer to what was read
    pub record Known (least at c : ℕ) (from : Progress) (r : Read A) (q : Progress) : Type 0 where
      pub l : List Entry
      pub is : r ≡ reached l q.at (drop q.at s)
      pub place : q ≡ moved_past c from l q.at
      pub some : least ≤ length l
      pub past : at + length l ≤ q.at
      pub inside : at ≤ length s → q.at ≤ length s

    pub known : (least at c : ℕ) (from : Progress) (r : Read A) (q : Progress) → After least at r → passed_over c from r ≡ Ok q → Known least at c from r q
    known least at c from (reached l next rest) q a e =
        let eq : moved_past c from l next ≡ q = cc in
        let en : next ≡ q.at = ap (λ (x : Progress). x.at) eq in
        record {
          l = l;
          is = rw (a.left, en);
          place = sym (rw en at eq);
          some = a.some;
          past = rw en at a.past;
          inside = λ h. rw en at (a.inside h);
        }
    known least at c from (breach place) q a e = absurd cc

    breach_known : (c : ℕ) (from : Progress) (r : Read A) (m : Malformed) → passed_over c from r ≡ Err m → r ≡ breach m.place
    breach_known c from (reached l next rest) m e = absurd cc
    breach_known c from (breach p) m e = cc

    -- a turn of the hall reader, from a place on
    module _ (c levels n i : ℕ) (p : Progress) where
      abbrev Here : Read A
      Here = entry_of head levels p.at p.chutes (drop p.at s)

      abbrev Left : ℕ → Progress → Read A
      Left m q = entries_of head levels m q.at q.chutes (drop q.at s)

      module _ (q : Progress) (d : Covered p.at) (e : Ok q ≡ passed_over c p Here) where
        turn_known : Known 1 p.at c p Here q
        turn_known = known 1 p.at c p Here q (after_entry levels p.at p.chutes d) (sym e)

        -- no more entries than places stand before the pass
        pub turn_counted : p.entries ≤ p.at → q.entries ≤ q.at
        turn_counted h =
            let w = turn_known in
            let en : q.entries ≡ p.entries + length w.l = ap (λ (x : Progress). x.entries) w.place in
            omega (arith, w.past)

        pub turn_in : ProgressIn p (length s) → ProgressIn q (length s)
        turn_in h = record { counted = turn_counted h.counted; inside = turn_known.inside h.inside }

        -- what is left of the list falls: in a hall plan, bytes left
        pub turn_less : p.at ≤ length s → length s - q.at < length s - p.at
        turn_less h = let w = turn_known in omega (arith, w.past, w.some, w.inside h)

        pub turn : i < n → passed_over c p (Left (n - i) p) ≡ passed_over c q (Left (n - (i + 1)) q)
        unfolding entries_with
        turn g =
            let k : n - i ≡ suc (n - (i + 1)) = omega arith in
            let w = turn_known in
            let ec : q.chutes ≡ p.chutes + length (destinations w.l) = ap (λ (x : Progress). x.chutes) w.place in
            let rest : Read A = Left (n - (i + 1)) q in
            rw (k, w.is, ← ec) (passed_prepend c p w.l q.at rest ∙ ap (λ (x : Progress). passed_over c x rest) (sym w.place))

      pub turn_bad : (m : Malformed) → Err m ≡ passed_over c p Here → i < n → passed_over c p (Left (n - i) p) ≡ Err m
      unfolding entries_with
      turn_bad m e g = let k : n - i ≡ suc (n - (i + 1)) = omega arith in rw (k, breach_known c p Here m (sym e))

      pub turn_end : n ≤ i → passed_over c p (Left (n - i) p) ≡ Ok p
      unfolding entries_with
      turn_end g = let k : n - i ≡ zero = omega arith in rw k (ap Ok (moved_none c p))

    inner_more : (levels n at chutes : ℕ) (t : List A) → 1 ≤ levels → inner_of head levels n at chutes t ≡ entries_of head (levels - 1) n at chutes t
    unfolding inner_of
    inner_more zero n at chutes t h = absurd (omega arith)
    inner_more (suc levels) n at chutes t h = let k : suc levels - 1 ≡ levels = omega arith in rw k

    -- an entry, by what stands first
    module _ (c levels : ℕ) (p : Progress) where
      pub entry_chute : (k v next : ℕ) (rest : List A) → head levels p.chutes p.at (drop p.at s) ≡ first k v next rest → k ≡ chute_kind
          → passed_over c p (entry_of head levels p.at p.chutes (drop p.at s)) ≡ Ok (moved_past c p (entry chute_kind v ∷ []) next)
      entry_chute k v next rest e z = rw (e, z)

      abbrev Inner : ℕ → ℕ → Read A
      Inner v next = entries_of head (levels - 1) v next p.chutes (drop next s)

      pub entry_hall : (k v next : ℕ) → head levels p.chutes p.at (drop p.at s) ≡ first k v next (drop next s) → (k ≡ chute_kind → ⊥)
          → 1 ≤ levels
          → passed_over c p (entry_of head levels p.at p.chutes (drop p.at s)) ≡ passed_over c (inside_hall p next) (Inner v next)
      entry_hall k v next e n h =
          rw (e, ne_eqb _ _ n, inner_more levels v next p.chutes (drop next s) h)
          (passed_prepend c p (entry k v ∷ []) next (Inner v next) ∙ ap (λ (x : Progress). passed_over c x (Inner v next)) (moved_hall c p k v next n))

      pub entry_wrong : (place : ℕ) → head levels p.chutes p.at (drop p.at s) ≡ wrong place
          → passed_over c p (entry_of head levels p.at p.chutes (drop p.at s)) ≡ Err (record { place = place })
      entry_wrong place e = rw e
