-- Which case of the definitions holds, from the length that was asked for first.
use Rattle.std.proofs.Common.{◌≡◌, refl, sym, ap, ◌∙◌, List, Bool, true, false, cond, ◌&&◌, ℕ, ◌+◌, ◌≤◌, ◌<◌, arith, length, ltb, eqb, Ok, Err}
use Rattle.std.proofs.Math.Seq.{sets}
use borrow.Author.Tests.{lt-ltb, le-ltb, ltb-true, ltb-false, eq-eqb, ne_eqb}
use Rattle.answers.specs.Places.{plan_refusal_number}
use Rattle.answers.specs.declared.PlanRefusal.{PlanRefusal}
use Rattle.answers.specs.Numbers.{done, input_too_long, malformed_plan}
use Rattle.leb128_write.specs.Written.{written_number}
use Rattle.plan_read.specs.Limits.{max_plan}
use Rattle.plan_length.specs.Length.{length_is, no_length, write_answer, length_from}
use Rattle.plan_length.specs.declared.PlanLength.{PlanLength}
use Rattle.hall_check.specs.Lists.{pairs, lists_allowed}
use Rattle.hall_length.specs.Written.{written_entries, written_halls}
use Rattle.hall_length.specs.Length.{too_long, hall_length_of}
use Rattle.hall_write.specs.Write.{halls_fill, hall_write_refusal, hall_written_of, WritesHalls}
use Rattle.stores.specs.Laws.{sets_append, sets_all}

module _ (outer : ℕ) (kinds values : List ℕ) where
  abbrev pub Text : List ℕ
  Text = written_halls outer (pairs kinds values)

  pub long_buffer : (out : List ℕ) → max_plan < length out → WritesHalls outer kinds values out out (write_answer input_too_long)
  unfolding hall_write_refusal hall_written_of
  long_buffer out h = record { answer = rw (lt-ltb _ _ h); buffer = rw (lt-ltb _ _ h) }

  not_filled : (out : List ℕ) → length out ≤ max_plan → halls_fill outer kinds values (length out) ≡ false
      → WritesHalls outer kinds values out out (write_answer malformed_plan)
  unfolding hall_write_refusal hall_written_of
  not_filled out h f = record { answer = rw (le-ltb _ _ h, f); buffer = rw (le-ltb _ _ h, f) }

  -- what a length says that was answered
  pub record Asked (n : ℕ) : Type 0 where
    pub ok : lists_allowed outer kinds values ≡ true
    pub is : n ≡ length Text
    pub within : n ≤ max_plan

  module _ (p : PlanLength) (e : p ≡ hall_length_of outer kinds values) where
    pub asked : p.number ≡ done → Asked p.length
    unfolding hall_length_of
    asked z = go (lists_allowed outer kinds values) (ltb max_plan (length Text)) refl refl e
      where
        go : (a b : Bool) → lists_allowed outer kinds values ≡ a → ltb max_plan (length Text) ≡ b
            → p ≡ cond a (cond b too_long (length_is (length Text))) no_length → Asked p.length
        go true false ea eb q =
            let n : p.length ≡ length Text = ap (λ (x : PlanLength). x.length) q in
            record { ok = ea; is = n; within = omega (arith, ltb-false max_plan (length Text) eb) }
        go true true ea eb q = absurd (omega (arith, ap (λ (x : PlanLength). x.number) q))
        go false b ea eb q = absurd (omega (arith, ap (λ (x : PlanLength). x.number) q))

    -- lists that break the rules, or whose plan is longer than a buffer may be
    pub refused : (out : List ℕ) → length out ≤ max_plan → (p.number ≡ done → ⊥) → WritesHalls outer kinds values out out (write_answer malformed_plan)
    unfolding hall_length_of halls_fill
    refused out short n =
        not_filled out short (go (lists_allowed outer kinds values) (ltb max_plan (length Text)) refl (λ q. n (ap (λ (x : PlanLength). x.number) e ∙ q)))
      where
        go : (a b : Bool) → ltb max_plan (length Text) ≡ b
            → ((cond {A = PlanLength} a (cond b too_long (length_is (length Text))) no_length).number ≡ done → ⊥)
            → (a && eqb (length Text) (length out)) ≡ false
        go true true eb m = let d : length Text ≡ length out → ⊥ = λ q. omega (arith, ltb-true max_plan (length Text) eb) in ne_eqb _ _ d
        go true false eb m = absurd (m refl)
        go false b eb m = refl

  module _ (n : ℕ) (a : Asked n) where
    -- a buffer of the length that was answered is filled
    pub filled : hall_write_refusal outer kinds values n ≡ done
    unfolding hall_write_refusal halls_fill
    filled = let m : length Text ≡ n = sym a.is in rw (le-ltb _ _ a.within, a.ok, eq-eqb _ _ m)

    pub other_length : (out : List ℕ) → length out ≤ max_plan → (n ≡ length out → ⊥) → WritesHalls outer kinds values out out (write_answer malformed_plan)
    unfolding halls_fill
    other_length out short o =
        let d : length Text ≡ length out → ⊥ = λ q. o (a.is ∙ q) in
        not_filled out short (rw (a.ok, ne_eqb _ _ d))

    -- both runs of stores together are the hall plan
    pub all_written : (out one two : List ℕ) → n ≡ length out → one ≡ sets out 0 (written_number outer)
        → two ≡ sets one (length (written_number outer)) (written_entries (pairs kinds values)) → WritesHalls outer kinds values out two (write_answer done)
    unfolding hall_written_of halls_fill written_halls
    all_written out one two m eo et =
        let same : length Text ≡ length out = sym a.is ∙ m in
        let short : length out ≤ max_plan = omega (arith, a.within) in
        let k : 0 + length (written_number outer) ≡ length (written_number outer) = omega arith in
        let whole : sets out 0 Text ≡ two = sets_append out 0 (written_number outer) (written_entries (pairs kinds values)) ∙ rw (k, ← eo, ← et) in
        record {
          answer = ap write_answer (sym (rw m at filled));
          buffer = rw (le-ltb _ _ short, a.ok, eq-eqb _ _ same) (sym whole ∙ sets_all out Text same);
        }

-- a refusal has a number
some_number : (r : PlanRefusal) → plan_refusal_number r ≡ done → ⊥
some_number PlanRefusal.TooLong e = omega arith
some_number (PlanRefusal.Malformed m) e = omega arith
some_number PlanRefusal.NoSuchChute e = omega arith

-- from what was answered of the length
module _ (outer : ℕ) (kinds values : List ℕ) where
  pub no_length_asked : (r : PlanRefusal) → length_from (Err r) ≡ hall_length_of outer kinds values → (out : List ℕ) → length out ≤ max_plan
      → WritesHalls outer kinds values out out (write_answer malformed_plan)
  no_length_asked r e out short = refused outer kinds values (length_from (Err r)) e out short (some_number r)

  pub length_asked : (n : ℕ) → length_from (Ok n) ≡ hall_length_of outer kinds values → Asked outer kinds values n
  length_asked n e = asked outer kinds values (length_from (Ok n)) e refl
