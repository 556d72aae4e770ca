-- Laws of writing: the groups that a number of one, two or three bytes has, their stores at a place, and the answer of writing the number.
use Rattle.std.specs.Prelude.{◌≡◌, List, [], ◌∷◌, ◌++◌, Bool, true, false, cond, Option, Some, None, ℕ, zero, suc, ◌+◌, ◌-◌, ◌/◌, ◌%◌, ◌≤◌, ◌<◌, leb, length, take, drop}
use Rattle.std.proofs.Common.{refl, sym, ◌∙◌, ap, append_assoc, arith, le-ltb, le-leb, drop-drop}
use Rattle.std.proofs.lemmas.Bool.{lt-leb}
use borrow.Rule.Slice.PartMut.{put_mid}
use Rattle.std.proofs.lemmas.List.Edits.{sets-eq}
use Rattle.leb128.specs.Number.{max_number}
use Rattle.leb128_write.specs.Written.{written_groups, written_number}
use Rattle.leb128_write.specs.Answers.{number_length, number_fits, written_past, number_written, unless_zero}
use Rattle.leb128_write.specs.Room.{past_groups, groups_stored}
use Rattle.leb128_write.proofs.Laws.{groups_count, groups_last, some_answer}

groups_more : (more v : ℕ) → 1 ≤ more → 128 ≤ v → written_groups more v ≡ (128 + v % 128) ∷ written_groups (more - 1) (v / 128)
unfolding written_groups
groups_more zero v z h = absurd (omega arith)
groups_more (suc more) v z h = let k : suc more - 1 ≡ more = omega arith in rw (le-ltb _ _ h, k)

-- the groups of a number, by how many they are
module _ (v : ℕ) where
  pub one_group : v < 128 → v ∷ [] ≡ written_number v
  one_group h = sym (groups_last 2 v h)

  pub two_groups : 128 ≤ v → v < 16384 → (128 + v % 128) ∷ v / 128 ∷ [] ≡ written_number v
  two_groups h l =
      let high : v / 128 < 128 = omega arith in
      sym (groups_more 2 v (omega arith) h ∙ ap (λ (t : List ℕ). (128 + v % 128) ∷ t) (groups_last 1 (v / 128) high))

  pub three_groups : 16384 ≤ v → (128 + v % 128) ∷ (128 + v / 128 % 128) ∷ v / 16384 ∷ [] ≡ written_number v
  unfolding written_groups
  three_groups h =
      let high : v / 16384 ≡ v / 128 / 128 = omega arith in
      rw high (sym (groups_more 2 v (omega arith) (omega arith)
      ∙ ap (λ (t : List ℕ). (128 + v % 128) ∷ t) (groups_more 1 (v / 128) (omega arith) (omega arith))))

-- the stores of groups
module _ (at : ℕ) (groups out : List ℕ) where
  pub none_room : length out < at + length groups → (None ≡ past_groups at groups (length out)) × (out ≡ groups_stored at groups out)
  none_room l = (rw (lt-leb _ _ l), rw (lt-leb _ _ l))

  pub all_stored : at + length groups ≤ length out → (stored : List ℕ) → stored ≡ groups
      → (Some (at + length groups) ≡ past_groups at groups (length out))
      × (put_mid at (at + length groups - at) out stored ≡ groups_stored at groups out)
  all_stored room stored s =
      let k : at + length groups - at ≡ length groups = omega arith in (
        rw (le-leb _ _ room),
        rw (k, s, le-leb _ _ room) (ap (λ (l : List ℕ). take at out ++ (groups ++ l)) (drop-drop (length groups) at out)
            ∙ sym (append_assoc (take at out) groups (drop (at + length groups) out))
            ∙ sym (sets-eq groups out at room)),
      )

-- how many bytes it takes
pub length_large : (v : ℕ) → max_number < v → 0 ≡ number_length v
unfolding number_length
length_large v h = rw (lt-leb _ _ h)

-- a place past a byte is not 0
some_or : (t : Bool) (n : ℕ) → 1 ≤ n → cond t (Some n) None ≡ unless_zero (cond t n 0)
some_or true n h = sym (some_answer n h)
some_or false n h = refl

-- the answer and the stores of a number in a buffer
module _ (at v : ℕ) (out : List ℕ) where
  abbrev pub Answers : Option ℕ → List ℕ → Type 0
  Answers answer stored = (answer ≡ unless_zero (written_past at v (length out))) × (stored ≡ number_written at v out)

  pub none_large : max_number < v → Answers None out
  unfolding written_past number_written number_fits
  none_large h = (rw (lt-leb _ _ h), rw (lt-leb _ _ h))

  pub groups_written : v ≤ max_number → (groups : List ℕ) → groups ≡ written_number v → (answer : Option ℕ) (stored : List ℕ)
      → (answer ≡ past_groups at groups (length out)) × (stored ≡ groups_stored at groups out) → Answers answer stored
  unfolding written_past number_written number_fits
  groups_written h groups e answer stored s =
      let fits = le-leb v max_number h in
      let some : 1 ≤ at + length (written_number v) = omega (arith, groups_count 2 v) in (
        rw fits ((rw e at s.0) ∙ some_or (leb (at + length (written_number v)) (length out)) (at + length (written_number v)) some),
        rw fits (rw e at s.1),
      )
