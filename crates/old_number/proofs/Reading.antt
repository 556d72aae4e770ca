-- Laws of a number read by the old rule, from the answer of the present rule: it is kept, but where it failed at a byte of 0.
use mathlib.Core.Path.{◌≡◌, refl, subst, ◌∙◌}
use Rattle.std.specs.Prelude.{Result, Ok, Err}
use mathlib.Core.Logic.{inl, inr}
use mathlib.Core.List.{List, [], ◌∷◌}
use mathlib.Core.Bool.{Bool, true, false}
use Rattle.std.proofs.Common.{ltb, ltb-true, ltb-false}
use Prim.Native.Nat.{ℕ, zero, suc, ◌+◌, ◌*◌, ◌-◌, ◌%◌, ◌≤◌, ◌<◌}
use native.Mathlib.Omega.{arith}
use lib.ListN.{length, get_or, drop, length-drop}
use lib.Seq.{get_or-drop}
use Rattle.leb128.specs.Number.{Parsed, value, bad, number}
use Rattle.leb128.specs.Answers.{ReadsNumber}
use Rattle.leb128.specs.Laws.Failing.{Fails, groups_fail}
use Rattle.leb128.specs.declared.Number.{Number}
use Rattle.answers.specs.declared.Malformed.{Malformed}
use Rattle.old_number.specs.OldNumber.{old_number}
use Rattle.old_number.specs.Laws.{low_groups, zero_there, zero_there_lem, none_there, other_there, as_old, fails_after, as_old_lem}

-- the first two groups make as much as those before an empty second or third one
low_groups_lem : (k : ℕ) (t : List ℕ) → 1 ≤ k → k ≤ 2 → get_or t k 0 ≡ 0 → get_or t 0 0 % 128 + 128 * (get_or t 1 0 % 128) ≡ low_groups k t
unfolding low_groups
low_groups_lem zero t h l e = absurd (omega arith)
low_groups_lem (suc zero) [] h l e = refl
low_groups_lem (suc zero) (b ∷ []) h l e = refl
low_groups_lem (suc zero) (b ∷ c ∷ t) h l e = rw e
low_groups_lem (suc (suc zero)) [] h l e = refl
low_groups_lem (suc (suc zero)) (b ∷ []) h l e = refl
low_groups_lem (suc (suc zero)) (b ∷ c ∷ t) h l e = let z : c % 128 + 128 * 0 ≡ c % 128 = omega arith in rw z
low_groups_lem (suc (suc (suc k))) t h l e = absurd (omega arith)

value_kept : (at : ℕ) (t : List ℕ) (p : Parsed) (n : Number) → ReadsNumber p (Ok n) → ReadsNumber (as_old at t p) (Ok n)
value_kept at t (value w m rest) n h = h
value_kept at t (bad place) n h = let e = h.answer in absurd cc

pub bad_known : (p : Parsed) (e : Malformed) → ReadsNumber p (Err e) → p ≡ bad e.place
bad_known (value w m rest) e h = let q = h.answer in absurd cc
bad_known (bad place) e h = let q = h.answer in cc

-- the present rule's answer at a place of s
module _ (at : ℕ) (s : List ℕ) where
  old_is : (q : Result Number Malformed) → ReadsNumber (as_old at (drop at s) (number at (drop at s))) q → ReadsNumber (old_number at (drop at s)) q
  old_is q = subst (λ (p : Parsed). ReadsNumber p q) (as_old_lem true 2 at (drop at s))

  pub old_value : (n : Number) → ReadsNumber (number at (drop at s)) (Ok n) → ReadsNumber (old_number at (drop at s)) (Ok n)
  old_value n h = old_is (Ok n) (value_kept at (drop at s) (number at (drop at s)) n h)

  -- it failed
  module _ (e : Malformed) (h : ReadsNumber (number at (drop at s)) (Err e)) where
    abbrev place : ℕ
    place = e.place

    failed : number at (drop at s) ≡ bad place
    failed = bad_known (number at (drop at s)) e h

    fails : Fails true 2 at (drop at s) (bad place)
    fails = rw failed at (groups_fail true 2 at (drop at s))

    -- at a byte that is missing, or is not 0
    bad_kept : zero_there (place - at) (drop at s) ≡ false → ReadsNumber (old_number at (drop at s)) (Err e)
    bad_kept z = old_is (Err e) (rw (failed, z) (record { answer = refl; values = refl }))

    byte_there : get_or (drop at s) (place - at) 0 ≡ get_or s place 0
    byte_there =
        let here : at + (place - at) ≡ place = omega (arith, fails_after true 2 at (drop at s) place fails) in
        get_or-drop at s (place - at) 0 ∙ rw here

    pub old_over : (place < length s → get_or s place 0 ≡ 0 → ⊥) → ReadsNumber (old_number at (drop at s)) (Err e)
    old_over some = go (ltb place (length s)) refl
      where
        go : (t : Bool) → ltb place (length s) ≡ t → ReadsNumber (old_number at (drop at s)) (Err e)
        go true q =
            let there : 0 < get_or s place 0 = omega (arith, some (ltb-true place (length s) q)) in
            bad_kept (other_there (place - at) (drop at s) (rw byte_there there))
        go false q = bad_kept (none_there (place - at) (drop at s) (omega (arith, length-drop at s, ltb-false place (length s) q)))

    -- at a byte of 0, which is the number's second or third group
    module _ (l : place < length s) (z : get_or s place 0 ≡ 0) where
      pub empty_group : (at + 1 ≤ place) × (place ≤ at + 2)
      empty_group = go fails
        where
          go : Fails true 2 at (drop at s) (bad place) → (at + 1 ≤ place) × (place ≤ at + 2)
          go (inl f) = absurd (omega (arith, f.0, length-drop at s))
          go (inr (inl f)) =
              let here : at + 2 ≡ place = omega (arith, f.0) in
              let third : get_or (drop at s) 2 0 ≡ 0 = get_or-drop at s 2 0 ∙ rw here z in
              absurd (omega (arith, f.1.1))
          go (inr (inr f)) = (f.after, f.within)

      pub old_empty : (first second : ℕ) → first ≡ get_or s at 0 % 128 → second ≡ get_or s (at + 1) 0 % 128
          → ReadsNumber (old_number at (drop at s)) (Ok (record { value = first + 128 * second; next = place + 1 }))
      old_empty first second a b =
          let there : get_or (drop at s) (place - at) 0 ≡ 0 = byte_there ∙ z in
          let k : place - at < length (drop at s) = omega (arith, length-drop at s, empty_group) in
          let here : at + 0 ≡ at = omega arith in
          let low : first + 128 * second ≡ low_groups (place - at) (drop at s) =
          rw (a, b, ← (rw here at (get_or-drop at s 0 0)), ← (get_or-drop at s 1 0))
          (low_groups_lem (place - at) (drop at s) (omega (arith, empty_group)) (omega (arith, empty_group)) there) in
          old_is _ (rw (failed, zero_there_lem (place - at) (drop at s) k there, low) (record { answer = refl; values = refl }))
