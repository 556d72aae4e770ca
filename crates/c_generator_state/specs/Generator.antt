-- The generator's state as C sees it, and the answer to a seeding or a draw.
use Rattle.answers.specs.Done.{outcome_from}
use Rattle.answers.specs.declared.Outcome.{Outcome}
use Rattle.drng.specs.declared.Generator.{Generator}
use Rattle.drng.specs.declared.GeneratorAnswer.{GeneratorAnswer}
use Rattle.c_flag.specs.Flag.{flag, is_set}
use Rattle.c_generator_state.specs.declared.CGenerator.{CGenerator}
use Rattle.c_generator_state.specs.declared.CGeneratorAnswer.{CGeneratorAnswer}

abbrev pub exported_generator : Generator → CGenerator
exported_generator g = record { key = g.key; seeded = flag g.seeded }

abbrev pub imported_generator : CGenerator → Generator
imported_generator g = record { key = g.key; seeded = is_set g.seeded }

abbrev pub exported_answer : GeneratorAnswer → CGeneratorAnswer
exported_answer a =
    let outcome : Outcome = outcome_from a.answer in
    record { generator = exported_generator a.generator; runs = outcome.runs; number = outcome.number }
