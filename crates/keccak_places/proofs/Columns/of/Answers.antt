-- By computation: the lists that the code returns are the definition's.
use Rattle.std.proofs.Common.{refl}
use Rattle.in_place.specs.Complemented.{complemented, masked}
use Rattle.in_place.specs.Places.{even_columns, odd_columns}
use Rattle.keccak_places.proofs.Columns.of.Goals as goal

pub returns-clause-evens : goal.returns-clause-evens
unfolding even_columns complemented masked
returns-clause-evens c = refl

pub returns-clause-odds : goal.returns-clause-odds
unfolding odd_columns complemented masked
returns-clause-odds c = refl
