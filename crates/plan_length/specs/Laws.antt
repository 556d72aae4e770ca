-- Laws of a plan's bytes: how many they are, and what the rules say of two parts.
use Rattle.std.specs.Prelude.{◌≡◌, refl, List, Bool, true, false, ◌&&◌, ℕ, ◌+◌, length}
use Rattle.std.proofs.Common.{length-append}
use Rattle.leb128_write.specs.Written.{written_number}
use Rattle.plan_length.specs.Length.{written_rows, written_plan}

pub and_left : (a b : Bool) → (a && b) ≡ true → a ≡ true
and_left true b e = refl
and_left false b e = e

pub and_right : (a b : Bool) → (a && b) ≡ true → b ≡ true
and_right true b e = e
and_right false b e = cc

pub plan_length : (l : List ℕ) → length (written_plan l) ≡ length (written_number (length l)) + length (written_rows l)
unfolding written_plan
plan_length l = rw length-append
