-- The numbers that a caller gets back (docs/RULES.md, 'Numbers'). The smallest that applies is given.
use Rattle.std.specs.Prelude.{ℕ, cond, eqb}
use Rattle.answers.specs.declared.Refusal.{Refusal}
use Rattle.answers.specs.declared.Refusal.TheVariants.{
  WrongState,
  BadKeyLength,
  StringTooLong,
  ReservedName,
  InputTooLong,
  BadOutputLength,
  BadTagLength,
  TagMismatch,
  MalformedPlan,
  NoSuchChute,
}

abbrev pub done : ℕ
done = 0

-- a session that is giving is asked to take, or a draw from a generator that was never seeded
abbrev pub wrong_state : ℕ
wrong_state = 1

-- a sealing key is not 32 bytes, or a KMAC key is too long
abbrev pub bad_key_length : ℕ
bad_key_length = 2

-- a name, customisation, IV, additional input or personalisation is too long
abbrev pub string_too_long : ℕ
string_too_long = 3

-- cSHAKE256 with a name of the standard's own
abbrev pub reserved_name : ℕ
reserved_name = 4

-- a message, text with label, seed or plan is too long
abbrev pub input_too_long : ℕ
input_too_long = 5

-- an output is too long, empty where it may not be, or not as long as its text; a session that could not start is asked for bytes
abbrev pub bad_output_length : ℕ
bad_output_length = 6

-- a tag is too short or too long
abbrev pub bad_tag_length : ℕ
bad_tag_length = 7

-- the tag is not the one worked out afresh
abbrev pub tag_mismatch : ℕ
tag_mismatch = 8

-- a plan is malformed, or rows to be written break its rules or do not fill the buffer exactly
abbrev pub malformed_plan : ℕ
malformed_plan = 9

-- the plan has no such chute
abbrev pub no_such_chute : ℕ
no_such_chute = 10

-- the number of what a call is refused for
abbrev pub number_of : Refusal → ℕ
number_of WrongState = wrong_state
number_of BadKeyLength = bad_key_length
number_of StringTooLong = string_too_long
number_of ReservedName = reserved_name
number_of InputTooLong = input_too_long
number_of BadOutputLength = bad_output_length
number_of BadTagLength = bad_tag_length
number_of TagMismatch = tag_mismatch
number_of MalformedPlan = malformed_plan
number_of NoSuchChute = no_such_chute

-- and what a number of the table stands for; the last where it is none of the table
abbrev pub refusal_of : ℕ → Refusal
refusal_of k =
    cond (eqb k wrong_state) WrongState
    (cond (eqb k bad_key_length) BadKeyLength
    (cond (eqb k string_too_long) StringTooLong
    (cond (eqb k reserved_name) ReservedName
    (cond (eqb k input_too_long) InputTooLong
    (cond (eqb k bad_output_length) BadOutputLength
    (cond (eqb k bad_tag_length) BadTagLength
    (cond (eqb k tag_mismatch) TagMismatch
    (cond (eqb k malformed_plan) MalformedPlan NoSuchChute))))))))
