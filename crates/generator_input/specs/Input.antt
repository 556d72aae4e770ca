-- What a generator puts into the sponge after its call's start, for strings of every length, also those that a seeding or a draw refuses.
use Rattle.std.specs.Prelude.{List, [], ◌∷◌, ◌++◌, ℕ, ◌%◌, length}
use Rattle.calls.specs.Call.{cSHAKE256, KMACXOF256, ending}
use Rattle.seeding.specs.declared.Drng.{Drng}
use Rattle.seeding.specs.declared.Drng.TheVariants.{Cshake, Kmac}

-- 1.1.2, whatever the length: a string, then one byte with the lowest eight bits of its length
abbrev pub byte_suffixed : List ℕ → List ℕ
byte_suffixed l = l ++ (length l % 256 ∷ [])

-- what the generator's function puts after its message
abbrev pub ending_of : Drng → List ℕ
ending_of Cshake = ending cSHAKE256 0
ending_of Kmac = ending KMACXOF256 0
