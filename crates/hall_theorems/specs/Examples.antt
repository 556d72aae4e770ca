-- Worked examples of hall plans (docs/RULES.md, 'Hall plan'), and the edges of the rules, by the answers that the entries promise. The last number of
-- a refusal is its place.
use Rattle.std.specs.Prelude.{ℕ, ◌≡◌, List, [], ◌∷◌}
use Rattle.answers.specs.Numbers.{input_too_long, malformed_plan, no_such_chute}
use Rattle.answers.specs.Breaches.{no_place}
use Rattle.plan.specs.Answers.{found_destination, no_destination}
use Rattle.plan_length.specs.Length.{length_is, no_length}
use Rattle.hall.specs.Answers.{refused_summary, accepted_summary, hall_summary_of, hall_lookup_of}
use Rattle.hall_lists.specs.Lists.{lists_kinds, lists_values}
use Rattle.hall_length.specs.Length.{hall_length_of}
use Rattle.hall_write.specs.Write.{hall_write_refusal, hall_written_of}

-- two entries: a hall of two chutes (7 and 300), and a chute (0)
unfoldable pub two_entries : List ℕ
two_entries = 0x02 ∷ 0x01 ∷ 0x02 ∷ 0x00 ∷ 0x07 ∷ 0x00 ∷ 0xAC ∷ 0x02 ∷ 0x00 ∷ 0x00 ∷ []

-- each hall holds one, and the last none: eight levels, and a ninth
unfoldable pub eight_levels : List ℕ
eight_levels = 1 ∷ 1 ∷ 1 ∷ 1 ∷ 1 ∷ 1 ∷ 1 ∷ 1 ∷ 1 ∷ 1 ∷ 1 ∷ 1 ∷ 1 ∷ 1 ∷ 0 ∷ []

unfoldable pub nine_levels : List ℕ
nine_levels = 1 ∷ 1 ∷ 1 ∷ 1 ∷ 1 ∷ 1 ∷ 1 ∷ 1 ∷ 1 ∷ 1 ∷ 1 ∷ 1 ∷ 1 ∷ 1 ∷ 1 ∷ 1 ∷ 0 ∷ []

pub record HallExamples : Type 0 where
  pub summary : hall_summary_of two_entries ≡ accepted_summary 2 4 3
  pub chute_2 : hall_lookup_of two_entries 2 ≡ found_destination 300
  pub chute_3 : hall_lookup_of two_entries 3 ≡ found_destination 0
  pub chute_4 : hall_lookup_of two_entries 4 ≡ no_destination no_such_chute no_place
  pub chute_0 : hall_lookup_of two_entries 0 ≡ no_destination no_such_chute no_place
  pub kinds : lists_kinds two_entries (9 ∷ 9 ∷ 9 ∷ 9 ∷ []) 4 ≡ 1 ∷ 0 ∷ 0 ∷ 0 ∷ []
  pub values : lists_values two_entries 4 (9 ∷ 9 ∷ 9 ∷ 9 ∷ []) ≡ 2 ∷ 7 ∷ 300 ∷ 0 ∷ []
  pub shorter_list : lists_kinds two_entries (9 ∷ 9 ∷ 9 ∷ []) 4 ≡ 9 ∷ 9 ∷ 9 ∷ []
  pub length : hall_length_of 2 (1 ∷ 0 ∷ 0 ∷ 0 ∷ []) (2 ∷ 7 ∷ 300 ∷ 0 ∷ []) ≡ length_is 10
  pub written : hall_written_of 1 (0 ∷ []) (300 ∷ []) (0 ∷ 0 ∷ 0 ∷ 0 ∷ []) ≡ 0x01 ∷ 0x00 ∷ 0xAC ∷ 0x02 ∷ []
  -- lists that are longer or unequal, halls that promise more or fewer entries than follow, and a buffer one longer
  pub longer_list : lists_values two_entries 4 (9 ∷ 9 ∷ 9 ∷ 9 ∷ 9 ∷ []) ≡ 9 ∷ 9 ∷ 9 ∷ 9 ∷ 9 ∷ []
  pub unequal_lists : hall_length_of 1 (0 ∷ []) (7 ∷ 7 ∷ []) ≡ no_length
  pub fewer_follow : hall_length_of 1 (1 ∷ 0 ∷ []) (2 ∷ 7 ∷ []) ≡ no_length
  pub more_follow : hall_length_of 1 (1 ∷ 0 ∷ 0 ∷ []) (1 ∷ 7 ∷ 7 ∷ []) ≡ no_length
  pub value_too_large : hall_length_of 1 (0 ∷ []) (2097152 ∷ []) ≡ no_length
  pub longer_buffer : hall_write_refusal 1 (0 ∷ []) (300 ∷ []) 5 ≡ malformed_plan
  pub long_buffer : hall_write_refusal 1 (2 ∷ []) (300 ∷ []) 65537 ≡ input_too_long
  pub no_entries : hall_summary_of (0x00 ∷ []) ≡ accepted_summary 0 0 0
  pub empty_hall : hall_summary_of (0x01 ∷ 0x01 ∷ 0x00 ∷ []) ≡ accepted_summary 1 1 0
  pub empty_halls : hall_summary_of (0x01 ∷ 0x01 ∷ 0x02 ∷ 0x01 ∷ 0x00 ∷ 0x01 ∷ 0x00 ∷ []) ≡ accepted_summary 1 3 0
  pub no_bytes : hall_summary_of [] ≡ refused_summary malformed_plan 0
  pub kind_2 : hall_summary_of (0x01 ∷ 0x02 ∷ 0x00 ∷ []) ≡ refused_summary malformed_plan 1
  pub bytes_after : hall_summary_of (0x01 ∷ 0x00 ∷ 0x07 ∷ 0x00 ∷ []) ≡ refused_summary malformed_plan 3
  pub more_promised : hall_summary_of (0xFF ∷ 0xFF ∷ 0x7F ∷ 0x00 ∷ 0x07 ∷ []) ≡ refused_summary malformed_plan 5
  pub level_8 : hall_summary_of eight_levels ≡ accepted_summary 1 7 0
  pub level_9 : hall_summary_of nine_levels ≡ refused_summary malformed_plan 15
