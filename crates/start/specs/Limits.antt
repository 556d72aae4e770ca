-- The bound on the strings that the private functions of a start put in. No public contract cites it.
use Rattle.std.specs.Prelude.{ℕ}
use Rattle.calls.specs.Limits.{max_customisation}

-- names, customisations and keys have one limit
abbrev pub longest_string : ℕ
longest_string = max_customisation
