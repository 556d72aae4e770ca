-- How the library compares names is the comparison of the definitions.
use Rattle.std.specs.Prelude.{◌≡◌, refl, ◌&&◌, List, [], ◌∷◌, ℕ, eqb}
use Rattle.std.proofs.Common.{nat_eq}
use lib.Pointwise.{pointwise}
use Rattle.calls.specs.Start.{same_bytes}

pub pointwise_is_same : (a b : List ℕ) → pointwise nat_eq a b ≡ same_bytes a b
pointwise_is_same [] [] = refl
pointwise_is_same [] (y ∷ ys) = refl
pointwise_is_same (x ∷ xs) [] = refl
pointwise_is_same (x ∷ xs) (y ∷ ys) = λ i. eqb x y && pointwise_is_same xs ys i
