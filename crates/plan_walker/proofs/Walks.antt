-- A walk over every number of asks: by the rows that are left at a place, and of a refused plan by its number and place alone.
use mathlib.Core.Path.{◌≡◌, refl, sym, ap, ◌∙◌}
use mathlib.Core.List.{List, [], ◌∷◌, map}
use mathlib.Core.Bool.{Bool, true, false, cond}
use Prim.Native.Nat.{ℕ, zero, suc, ◌≤◌}
use native.Mathlib.Omega.{arith}
use lib.ListN.{length, get_or, take, drop}
use lib.Dec.{ltb, leb, eqb, leb-zero, leb-suc-suc, leb-suc-zero}
use borrow.Author.Tests.{le-leb, ne_eqb}
use denote.Ref.{Bor}
use Rattle.answers.specs.Numbers.{done, input_too_long, no_such_chute}
use Rattle.answers.specs.Done.{if_done}
use Rattle.answers.specs.Breaches.{no_place}
use Rattle.leb128.specs.Number.{Parsed, value, bad, groups}
use Rattle.leb128.specs.Laws.Reading.{Rest, groups_rest}
use Rattle.plan_read.specs.Limits.{max_plan, max_rows}
use Rattle.plan_read.specs.Plan.{Plan, rows, refused, malformed, cons_row, after_number, plan_number, row, rows_by, rows_from, plan_in, plan_by, plan_of, no_row}
use Rattle.plan_read.specs.Laws.Refusals.{Numbered, plan_numbered}
use Rattle.plan.specs.Answers.{summary_of, summary, row_found, no_chute_row, chute_row, chute_row_of, destination_of, lookup_of}
use Rattle.plan_read.specs.declared.Row.{Row}
use Rattle.plan.specs.declared.Lookup.{Lookup}
use Rattle.plan_walk.specs.Walk.{past_number, first_row_at, walk_start, stay, walk_step}
use Rattle.plan_walker.specs.Walker.{walker_at, asks, moved}
use Rattle.plan_walker.specs.Walks.{walker_of, after_asks, answer_lookup, walked_out, destinations_of, WalksWhole}
use Rattle.plan_walk.specs.declared.Cursor.{Cursor}
use Rattle.plan_walker.specs.declared.Walker.{Walker}
use Rattle.plan_walk.specs.declared.WalkAnswer.{WalkAnswer}
use Rattle.plan_walk.proofs.Walking.{refused_old, start_number, start_place_lem, step_refused, step_stays, step_number, step_place}

abbrev destinations : List Row → List ℕ
destinations l = map (λ (r : Row). r.destination) l

-- the lookup of the (k + 1)th row
abbrev row_lookup : ℕ → List Row → Lookup
row_lookup k l = destination_of (cond (leb (suc k) (length l)) (row_found (get_or l k no_row)) (no_chute_row no_such_chute no_place))

take_none : (n : ℕ) → take {A = ℕ} n [] ≡ []
take_none zero = refl
take_none (suc n) = refl

module _ (plan : Bor (List ℕ)) where
  abbrev s : List ℕ
  s = plan.now

  -- a walk over a plan that was read, standing at a row; its walker, its (k + 1)th answer, and what k asks hand out
  abbrev cursor : ℕ → Cursor
  cursor at = record { at = at; number = done; place = no_place }

  abbrev at_row : ℕ → Walker
  at_row at = walker_at plan (cursor at)

  abbrev nth : ℕ → Walker → Lookup
  nth k w = answer_lookup (asks (after_asks k w))

  abbrev Asked : ℕ → Walker → List Row → Type 0
  Asked k w l = (nth k w ≡ row_lookup k l) × (walked_out k w ≡ take k (destinations l))

  -- what the asks from a place do, by the rows that are left
  abbrev AsksFrom : ℕ → Plan → Type 0
  AsksFrom at (rows l) = (k : ℕ) → Asked k (at_row at) l
  AsksFrom at (refused n place) = Unit

  end_stays : (at : ℕ) → drop at s ≡ [] → asks (at_row at) ≡ stay no_such_chute no_place (cursor at)
  unfolding walk_step groups
  end_stays at e = rw e

  -- an ask more
  abbrev then : ℕ → Walker → WalkAnswer → List ℕ
  then k w a = cond (eqb a.number done) (a.destination ∷ walked_out k (moved w a.next)) (walked_out k (moved w a.next))

  asks_more : (k : ℕ) (w : Walker) (a : WalkAnswer) → asks w ≡ a → (nth (suc k) w ≡ nth k (moved w a.next)) × (walked_out (suc k) w ≡ then k w a)
  unfolding after_asks walked_out
  asks_more k w a e = (ap (λ (b : WalkAnswer). nth k (moved w b.next)) e, ap (then k w) e)

  asks_end : (at : ℕ) → drop at s ≡ [] → (k : ℕ) → Asked k (at_row at) []
  unfolding after_asks walked_out
  asks_end at e zero = (ap answer_lookup (end_stays at e), refl)
  asks_end at e (suc k) =
      let ih = asks_end at e k in
      let more = asks_more k (at_row at) _ (end_stays at e) in
      (more.0 ∙ ih.0 ∙ rw (leb-suc-zero k, leb-suc-zero (suc k)), more.1 ∙ ih.1 ∙ take_none k)

  row_read : (at v next : ℕ) (rest : List ℕ) → plan_number at (drop at s) ≡ value v next rest
      → asks (at_row at) ≡ record { number = done; destination = v; place = no_place; next = cursor next }
  unfolding walk_step
  row_read at v next rest e = rw e

  asks_row : (at v next : ℕ) (rest : List ℕ) (p : Plan) → plan_number at (drop at s) ≡ value v next rest → AsksFrom next p
      → AsksFrom at (cons_row (row v at next) p)
  unfolding after_asks walked_out
  asks_row at v next rest (rows l) e ih = go
    where
      go : (k : ℕ) → Asked k (at_row at) (row v at next ∷ l)
      go zero = (ap answer_lookup (row_read at v next rest e) ∙ rw (leb-suc-suc, leb-zero), refl)
      go (suc k) =
          let more = asks_more k (at_row at) _ (row_read at v next rest e) in
          (rw leb-suc-suc (more.0 ∙ (ih k).0), more.1 ∙ ap (λ (t : List ℕ). v ∷ t) (ih k).1)
  asks_row at v next rest (refused n place) e ih = tt

  asks_rows : (n at : ℕ) → AsksFrom at (rows_from n at (drop at s))
  unfolding rows_by
  asks_rows zero at = go (drop at s) refl
    where
      go : (t : List ℕ) → drop at s ≡ t → AsksFrom at (rows_from zero at t)
      go [] e = asks_end at e
      go (b ∷ t) e = tt
  asks_rows (suc n) at = go (plan_number at (drop at s)) refl (groups_rest true 2 at s) (λ next. asks_rows n next)
    where
      go : (p : Parsed) → plan_number at (drop at s) ≡ p → Rest at s p → ((next : ℕ) → AsksFrom next (rows_from n next (drop next s)))
          → AsksFrom at (after_number p (λ v next rest. cons_row (row v at next) (rows_from n next rest)))
      go (value v next rest) e r ih = rw r.1 (asks_row at v next rest (rows_from n next (drop next s)) e (ih next))
      go (bad place) e r ih = tt

  asks_plan : AsksFrom (past_number (plan_number 0 s)) (plan_of s)
  unfolding plan_by
  asks_plan = long (ltb max_plan (length s)) (past_number (plan_number 0 s)) (plan_in s) (go (plan_number 0 s) (groups_rest true 2 0 s))
    where
      long : (b : Bool) (at : ℕ) (p : Plan) → AsksFrom at p → AsksFrom at (cond b (refused input_too_long 0) p)
      long true at p x = tt
      long false at p x = x

      most : (b : Bool) (at : ℕ) (p : Plan) → AsksFrom at p → AsksFrom at (cond b p (malformed 0))
      most true at p x = x
      most false at p x = tt

      go : (p : Parsed) → Rest 0 s p
          → AsksFrom (past_number p) (after_number p (λ count next rest. cond (leb count max_rows) (rows_from count next rest) (malformed 0)))
      go (value v next rest) r = rw r.1 (most (leb v max_rows) next (rows_from v next (drop next s)) (asks_rows v next))
      go (bad place) r = tt

  -- on a refused plan every ask answers the number and stays
  module _ (c : Cursor) (h : c.number ≡ done → ⊥) where
    abbrev w : Walker
    w = walker_at plan c

    refused_stays : asks w ≡ stay c.number c.place c
    refused_stays = sym (step_refused s c h)

    refused_asks : (k : ℕ) → (after_asks k w ≡ w) × (walked_out k w ≡ [])
    unfolding after_asks walked_out
    refused_asks zero = (refl, refl)
    refused_asks (suc k) =
        let ih = refused_asks k in
        (rw refused_stays ih.0, rw (refused_stays, ne_eqb _ _ h) ih.1)

  -- the lent plan is kept
  kept : (k : ℕ) (c : Cursor) → (after_asks k (walker_at plan c)).plan ≡ plan
  unfolding after_asks
  kept zero c = refl
  kept (suc k) c = kept k (walk_step s c).next

  -- and so are the number and the place
  kept_refusal : (k : ℕ) (c : Cursor)
      → let e = (after_asks k (walker_at plan c)).cursor in (e.number ≡ c.number) × (e.place ≡ c.place)
  unfolding after_asks
  kept_refusal zero c = (refl, refl)
  kept_refusal (suc k) c = let ih = kept_refusal k (walk_step s c).next in (ih.0 ∙ step_number s c, ih.1 ∙ step_place s c)

  -- by what the plan is, the asks from its start
  module _ (k : ℕ) where
    abbrev start_for : Plan → Cursor
    start_for p =
        let a = summary p in
        record { at = if_done a.number (first_row_at s) 0; number = a.number; place = a.place }

    abbrev AnswersAs : Plan → Cursor → Type 0
    AnswersAs p c =
        (nth k (walker_at plan c) ≡ destination_of (chute_row (suc k) p)) × (walked_out k (walker_at plan c) ≡ take k (destinations_of p))

    asks_go : (p : Plan) → Numbered p → AsksFrom (first_row_at s) p → AnswersAs p (start_for p)
    asks_go (rows l) u a = let one : 1 ≤ suc k = omega arith in rw (le-leb 1 (suc k) one) (a k)
    asks_go (refused n place) u a =
        let h : n ≡ done → ⊥ = λ e. omega arith in
        let c = start_for (refused n place) in
        let r = refused_asks c h k in
        (rw r.0 (ap answer_lookup (refused_stays c h)), r.1 ∙ sym (take_none k))

    asks_all : AnswersAs (plan_of s) (walk_start s)
    unfolding walk_start summary_of
    asks_all = asks_go (plan_of s) (plan_numbered s) asks_plan

    refused_at : ((summary_of s).number ≡ done → ⊥) → (after_asks k (walker_of plan)).cursor.at ≡ 0
    unfolding walk_start
    refused_at h = rw (refused_asks (walk_start s) h k).0 (refused_old (summary_of s).number (first_row_at s) 0 h)

pub walks : WalksWhole
unfolding lookup_of chute_row_of
walks plan k =
    let w = after_asks k (walker_of plan) in
    record {
      answers = (asks_all plan k).0;
      destinations = (asks_all plan k).1;
      stays = step_stays w.plan.now w.cursor;
      keeps = kept plan k (walk_start plan.now);
      number = (kept_refusal plan k (walk_start plan.now)).0 ∙ start_number plan.now;
      place = (kept_refusal plan k (walk_start plan.now)).1 ∙ start_place_lem plan.now;
      refused_at = refused_at plan k;
    }
