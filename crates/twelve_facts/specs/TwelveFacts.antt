-- P1 to P12 (docs/RULES.md, 'Facts'), over the definitions that the contracts cite.
use Rattle.std.specs.Prelude.{◌≡◌, List, [], ◌∷◌, ℕ}
use Rattle.encode.specs.Encode.{left_encode, right_encode, encode_string, KMAC}
use Rattle.plan.specs.Answers.{summary_of, lookup_of, no_destination}

-- the plan of the facts
unfoldable pub plan_above : List ℕ
plan_above = 0x03 ∷ 0x07 ∷ 0xAC ∷ 0x02 ∷ 0x00 ∷ []

pub record TwelveFacts : Type 0 where
  pub p1 : left_encode 0 ≡ 0x01 ∷ 0x00 ∷ []
  pub p2 : right_encode 0 ≡ 0x00 ∷ 0x01 ∷ []
  pub p3 : left_encode 255 ≡ 0x01 ∷ 0xff ∷ []
  pub p4 : left_encode 256 ≡ 0x02 ∷ 0x01 ∷ 0x00 ∷ []
  pub p5 : right_encode 256 ≡ 0x01 ∷ 0x00 ∷ 0x02 ∷ []
  pub p6 : encode_string KMAC ≡ 0x01 ∷ 0x20 ∷ 0x4b ∷ 0x4d ∷ 0x41 ∷ 0x43 ∷ []
  pub p7 : left_encode 136 ≡ 0x01 ∷ 0x88 ∷ []
  -- the plan 03 07 AC 02 00: chutes 2, 4 and 0
  pub p8 : lookup_of plan_above 2 ≡ record { number = 0; destination = 300; place = 0 }
  pub p9 : lookup_of plan_above 4 ≡ no_destination 10 0
  pub p10 : lookup_of plan_above 0 ≡ no_destination 10 0
  -- a plan of no rows, and a number of four groups, the third of which is the place
  pub p11 : summary_of (0x00 ∷ []) ≡ record { number = 0; rows = 0; place = 0 }
  pub p12 : summary_of (0x01 ∷ 0x80 ∷ 0x80 ∷ 0x80 ∷ 0x00 ∷ []) ≡ record { number = 9; rows = 0; place = 3 }
