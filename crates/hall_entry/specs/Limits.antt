-- The limits of a hall plan (docs/RULES.md, 'Hall plan'). The limit in bytes and that of a number are the flat plan's.
use Rattle.std.specs.Prelude.{ℕ}

-- chutes in all
abbrev pub max_chutes : ℕ
max_chutes = 4096

-- levels, the outermost being level 1
abbrev pub max_levels : ℕ
max_levels = 8

-- levels that may stand below the outermost
abbrev pub levels_below : ℕ
levels_below = 7
