-- The limits of the refusal table (docs/RULES.md, 'Numbers'), in bytes.
use Rattle.std.specs.Prelude.{ℕ}

-- number 2
abbrev pub max_key : ℕ
max_key = 4096

-- number 3
abbrev pub max_name : ℕ
max_name = 4096

abbrev pub max_customisation : ℕ
max_customisation = 4096

abbrev pub max_personalisation : ℕ
max_personalisation = 84

abbrev pub max_additional : ℕ
max_additional = 84

-- number 5
abbrev pub max_message : ℕ
max_message = 16777216

abbrev pub max_seed : ℕ
max_seed = 65536

-- number 6
abbrev pub max_output : ℕ
max_output = 16777216
