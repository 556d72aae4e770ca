-- Laws of stores one after another: a run after a run, and a run that fills the list.
use Rattle.std.specs.Prelude.{◌≡◌, List, [], ◌∷◌, ◌++◌, ℕ, suc, ◌+◌, ◌≤◌, length, set}
use Rattle.std.proofs.Common.{◌∙◌, append-nil, arith}
use Rattle.std.proofs.Math.Seq.{drop-length}
use Rattle.std.proofs.lemmas.List.Edits.{sets, sets-eq}

pub sets_append : (l : List ℕ) (i : ℕ) (xs ys : List ℕ) → sets l i (xs ++ ys) ≡ sets (sets l i xs) (i + length xs) ys
sets_append l i [] ys = let k : i + 0 ≡ i = omega arith in rw k
sets_append l i (x ∷ xs) ys = let k : i + suc (length xs) ≡ suc i + length xs = omega arith in rw k (sets_append (set l i x) (suc i) xs ys)

pub sets_all : (l xs : List ℕ) → length xs ≡ length l → sets l 0 xs ≡ xs
sets_all l xs e =
    let h : 0 + length xs ≤ length l = omega arith in
    let k : 0 + length xs ≡ length l = omega arith in
    sets-eq xs l 0 h ∙ rw (k, drop-length) (append-nil xs)
