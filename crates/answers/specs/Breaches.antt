-- Where a plan is malformed (docs/RULES.md, 'Places'): the breaches of its rules, and the place that an answer with refusal 9 tells for each. Of several the
-- first in reading order counts, each number being judged once it is read; the definitions of reading see to that.
use Rattle.std.specs.Prelude.{ℕ}

pub data Breach : Type 0 where
  -- a number ends before its last group: the first byte missing
  missing_byte : ℕ → Breach
  -- the last byte that a number may have, its third, promises another
  another_group : ℕ → Breach
  -- a number is in more groups than it needs: its last group, which is empty
  empty_group : ℕ → Breach
  -- the number of rows is above the limit
  too_many_rows : Breach
  -- bytes follow the last row or the last entry: the first of them
  bytes_after : ℕ → Breach
  -- of an entry of a hall plan, by the first byte of its kind: a kind that there is not, a hall beyond the last level, a chute beyond the last one allowed
  unknown_kind : ℕ → Breach
  level_too_deep : ℕ → Breach
  too_many_chutes : ℕ → Breach

abbrev pub place_of : Breach → ℕ
place_of (missing_byte place) = place
place_of (another_group place) = place
place_of (empty_group place) = place
place_of too_many_rows = 0
place_of (bytes_after place) = place
place_of (unknown_kind place) = place
place_of (level_too_deep place) = place
place_of (too_many_chutes place) = place

-- the place where nothing that was read is malformed: of an acceptance, of another refusal, and of refusal 9 for what is to be written, or for lists or a
-- buffer of a wrong length
abbrev pub no_place : ℕ
no_place = 0
