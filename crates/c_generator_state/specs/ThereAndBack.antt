-- What C was handed, lent again, is the generator that the crate `generator` handed back. It is proved in proofs/Back.antt.
use Rattle.std.specs.Prelude.{◌≡◌}
use Rattle.drng.specs.declared.Generator.{Generator}
use Rattle.c_generator_state.specs.Generator.{exported_generator, imported_generator}

abbrev pub ThereAndBack : Type 0
ThereAndBack = (g : Generator) → imported_generator (exported_generator g) ≡ g
