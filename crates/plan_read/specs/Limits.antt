-- The limits of a plan (docs/RULES.md, 'Chute plan' and 'Numbers').
use Rattle.std.specs.Prelude.{ℕ}
use Rattle.leb128.specs.Number.{max_number}

-- bytes of a plan to be read
abbrev pub max_plan : ℕ
max_plan = 65536

abbrev pub max_rows : ℕ
max_rows = 4096

-- the largest number of three groups
abbrev pub max_destination : ℕ
max_destination = max_number
