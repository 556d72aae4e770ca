-- The lengths of a seal's parts, in bytes (docs/RULES.md, 'Sealing' and 'Numbers').
use Rattle.std.specs.Prelude.{ℕ}

abbrev pub sealing_key_length : ℕ
sealing_key_length = 32

-- the bytes of the key stream that come before those for the text
abbrev pub authentication_key_length : ℕ
authentication_key_length = 32

abbrev pub least_tag : ℕ
least_tag = 16

abbrev pub longest_tag : ℕ
longest_tag = 64
