-- A generator's state, and what a seeding or a draw hands back (docs/RULES.md, 'Generators' and 'Numbers').
use Rattle.std.specs.Prelude.{true, false, List, ℕ, replicate, Ok, Err}
use Rattle.answers.specs.declared.Refusal.{Refusal}
use Rattle.answers.specs.Done.{if_done, answered}
use Rattle.seeding.specs.Seeding.{key_bytes}
use Rattle.drng.specs.declared.Generator.{Generator}
use Rattle.drng.specs.declared.GeneratorAnswer.{GeneratorAnswer}

-- before the first seeding
abbrev pub fresh_generator : Generator
fresh_generator = record { key = replicate key_bytes 0; seeded = false }

-- a seeded state with this key
abbrev pub holding : List ℕ → Generator
holding key = record { key = key; seeded = true }

-- a refusal: the state as it was
abbrev pub refused : Refusal → Generator → GeneratorAnswer
refused e before = record { answer = Err e; generator = before }

-- a seeding or a draw that is done in n runs
abbrev pub accepted : ℕ → (key : List ℕ) → GeneratorAnswer
accepted n key = record { answer = Ok n; generator = holding key }

-- the answer with the number k to a seeding or a draw that takes n runs and leaves the key
abbrev pub answer_with : (k n : ℕ) → (key : List ℕ) → (before : Generator) → GeneratorAnswer
answer_with k n key before = record { answer = answered k n; generator = if_done k (holding key) before }
