-- Each row of the table of places (docs/RULES.md, 'Places') on both sides of it, by the answers that the entries promise; the 4,096th chute and the next, whose
-- plans are long, by the entry reader.
use Rattle.std.specs.Prelude.{ℕ, ◌≡◌, [], ◌∷◌}
use Rattle.answers.specs.Numbers.{done, malformed_plan, no_such_chute}
use Rattle.answers.specs.Breaches.{no_place}
use Rattle.plan.specs.Answers.{found_destination, no_destination, summary_of, lookup_of}
use Rattle.plan.specs.declared.PlanSummary.{PlanSummary}
use Rattle.plan_pair.specs.Pair.{no_location, malformed_in, location_of}
use Rattle.plan_pair.specs.declared.Source.TheVariants.{Site, House}
use Rattle.hall_entry.specs.Entries.{first, wrong}
use Rattle.hall_entry.specs.Bytes.{byte_head}
use Rattle.hall.specs.Answers.{refused_summary, accepted_summary, hall_summary_of}
use Rattle.hall_lists.specs.Lists.{lists_summary}

abbrev pub bad_at : ℕ → PlanSummary
bad_at place = record { number = malformed_plan; rows = 0; place = place }

abbrev pub good : ℕ → PlanSummary
good n = record { number = done; rows = n; place = no_place }

pub record PlaceExamples : Type 0 where
  -- a number ends before its last group, after no, one and two of its bytes
  pub no_bytes : summary_of [] ≡ bad_at 0
  pub no_row : summary_of (0x01 ∷ []) ≡ bad_at 1
  pub cut_row : summary_of (0x01 ∷ 0x80 ∷ []) ≡ bad_at 2
  pub cut_third_group : summary_of (0x01 ∷ 0x80 ∷ 0x80 ∷ []) ≡ bad_at 3
  pub whole_row : summary_of (0x01 ∷ 0x80 ∷ 0x80 ∷ 0x01 ∷ []) ≡ good 1
  -- a number goes on after its third group: a row, and the number of rows
  pub fourth_group : summary_of (0x01 ∷ 0x80 ∷ 0x80 ∷ 0x80 ∷ 0x01 ∷ []) ≡ bad_at 3
  pub fourth_group_of_rows : summary_of (0x80 ∷ 0x80 ∷ 0x80 ∷ 0x00 ∷ []) ≡ bad_at 2
  -- a number is in more groups than it needs: a row of 0 and of 7 in two and three groups, and in one; a group of 0 that is not the last
  pub zero_in_two : summary_of (0x01 ∷ 0x80 ∷ 0x00 ∷ []) ≡ bad_at 2
  pub zero_in_three : summary_of (0x01 ∷ 0x80 ∷ 0x80 ∷ 0x00 ∷ []) ≡ bad_at 3
  pub zero_in_one : summary_of (0x01 ∷ 0x00 ∷ []) ≡ good 1
  pub seven_in_two : summary_of (0x01 ∷ 0x87 ∷ 0x00 ∷ []) ≡ bad_at 2
  pub seven_in_three : summary_of (0x01 ∷ 0x87 ∷ 0x80 ∷ 0x00 ∷ []) ≡ bad_at 3
  pub seven_in_one : summary_of (0x01 ∷ 0x07 ∷ []) ≡ good 1
  pub middle_group_of_0 : summary_of (0x01 ∷ 0x87 ∷ 0x80 ∷ 0x01 ∷ []) ≡ good 1
  -- the number of rows is in more groups than it needs: 0, 3, and 4,097, whose groups are judged before its value; a row is, and the next is cut
  pub no_rows_in_two : summary_of (0x80 ∷ 0x00 ∷ []) ≡ bad_at 1
  pub three_rows_in_two : summary_of (0x83 ∷ 0x00 ∷ 0x07 ∷ 0x07 ∷ 0x07 ∷ []) ≡ bad_at 1
  pub too_many_in_three : summary_of (0x81 ∷ 0xA0 ∷ 0x00 ∷ []) ≡ bad_at 2
  pub second_row_cut : summary_of (0x02 ∷ 0x87 ∷ 0x00 ∷ 0x80 ∷ []) ≡ bad_at 2
  -- 4,096 rows, of which none follows, and 4,097, which is judged before the first of them, be that bad too
  pub most_rows : summary_of (0x80 ∷ 0x20 ∷ []) ≡ bad_at 2
  pub too_many_rows : summary_of (0x81 ∷ 0x20 ∷ 0x80 ∷ 0x80 ∷ 0x80 ∷ []) ≡ bad_at 0
  -- bytes follow the last row
  pub after_no_row : summary_of (0x00 ∷ 0x00 ∷ []) ≡ bad_at 1
  pub after_a_row : summary_of (0x01 ∷ 0x07 ∷ 0x00 ∷ 0x00 ∷ []) ≡ bad_at 2
  -- an answer for a chute tells the plan's place, and one for a chute that is missing tells none
  pub looked_up : lookup_of (0x01 ∷ 0x80 ∷ []) 1 ≡ no_destination malformed_plan 2
  pub found : lookup_of (0x01 ∷ 0x07 ∷ []) 1 ≡ found_destination 7
  pub missing : lookup_of (0x01 ∷ 0x07 ∷ []) 2 ≡ no_destination no_such_chute no_place
  -- a kind that there is not, in one group and in two, and one that goes on after its third
  pub kind_1 : hall_summary_of (0x01 ∷ 0x01 ∷ 0x00 ∷ []) ≡ accepted_summary 1 1 0
  pub kind_2 : hall_summary_of (0x01 ∷ 0x02 ∷ 0x00 ∷ []) ≡ refused_summary malformed_plan 1
  pub kind_300 : hall_summary_of (0x01 ∷ 0xAC ∷ 0x02 ∷ 0x00 ∷ []) ≡ refused_summary malformed_plan 1
  pub kind_of_four_groups : hall_summary_of (0x01 ∷ 0x82 ∷ 0x80 ∷ 0x80 ∷ 0x00 ∷ []) ≡ refused_summary malformed_plan 3
  -- a kind in more groups than it needs, be it one that there is not; an outermost number, a hall's number of entries and a destination
  pub kind_0_in_two : hall_summary_of (0x01 ∷ 0x80 ∷ 0x00 ∷ 0x07 ∷ []) ≡ refused_summary malformed_plan 2
  pub kind_1_in_three : hall_summary_of (0x01 ∷ 0x81 ∷ 0x80 ∷ 0x00 ∷ 0x00 ∷ []) ≡ refused_summary malformed_plan 3
  pub kind_2_in_two : hall_summary_of (0x01 ∷ 0x82 ∷ 0x00 ∷ 0x00 ∷ []) ≡ refused_summary malformed_plan 2
  pub outermost_in_two : hall_summary_of (0x80 ∷ 0x00 ∷ []) ≡ refused_summary malformed_plan 1
  pub entries_in_two : hall_summary_of (0x01 ∷ 0x01 ∷ 0x80 ∷ 0x00 ∷ []) ≡ refused_summary malformed_plan 3
  pub destination_in_two : hall_summary_of (0x01 ∷ 0x00 ∷ 0x87 ∷ 0x00 ∷ []) ≡ refused_summary malformed_plan 3
  -- an empty hall on level 8, and one on level 9, be it cut after its kind; and a chute after 4,095 chutes and after 4,096
  pub last_level : hall_summary_of (1 ∷ 1 ∷ 1 ∷ 1 ∷ 1 ∷ 1 ∷ 1 ∷ 1 ∷ 1 ∷ 1 ∷ 1 ∷ 1 ∷ 1 ∷ 1 ∷ 0 ∷ []) ≡ accepted_summary 1 7 0
  pub level_too_deep_lem : hall_summary_of (1 ∷ 1 ∷ 1 ∷ 1 ∷ 1 ∷ 1 ∷ 1 ∷ 1 ∷ 1 ∷ 1 ∷ 1 ∷ 1 ∷ 1 ∷ 1 ∷ 1 ∷ 1 ∷ []) ≡ refused_summary malformed_plan 15
  pub last_chute : byte_head 7 4095 9 (0x00 ∷ 0x07 ∷ []) ≡ first 0 7 11 []
  pub chute_too_many : byte_head 7 4096 9 (0x00 ∷ 0x07 ∷ []) ≡ wrong 9
  pub chute_too_many_in_two : byte_head 7 4096 9 (0x80 ∷ 0x00 ∷ 0x07 ∷ []) ≡ wrong 10
  -- bytes follow the last entry
  pub after_an_entry : hall_summary_of (0x01 ∷ 0x00 ∷ 0x07 ∷ 0x00 ∷ []) ≡ refused_summary malformed_plan 3
  -- two breaches: a kind is judged before what follows it is read, and the first in reading order counts
  pub kind_before_value : hall_summary_of (0x01 ∷ 0x02 ∷ 0x80 ∷ []) ≡ refused_summary malformed_plan 1
  pub value_before_kind : hall_summary_of (0x02 ∷ 0x00 ∷ 0x80 ∷ 0x80 ∷ 0x80 ∷ 0x02 ∷ []) ≡ refused_summary malformed_plan 4
  -- lists of the wrong length for a well-formed hall plan, and for a malformed one
  pub wrong_lists : lists_summary (0x01 ∷ 0x00 ∷ 0x07 ∷ []) 2 1 ≡ refused_summary malformed_plan no_place
  pub malformed_lists : lists_summary (0x01 ∷ 0x00 ∷ []) 2 1 ≡ refused_summary malformed_plan 2
  -- two plans: the first malformed one, the site plan being read first
  pub both_malformed : location_of (0x01 ∷ []) [] 1 ≡ malformed_in Site 1
  pub house_malformed : location_of (0x00 ∷ []) (0x01 ∷ 0x80 ∷ []) 1 ≡ malformed_in House 2
  pub house_malformed_alone : location_of (0x01 ∷ 0x07 ∷ []) (0x01 ∷ 0x80 ∷ []) 1 ≡ malformed_in House 2
  pub house_in_two : location_of (0x01 ∷ 0x07 ∷ []) (0x01 ∷ 0x87 ∷ 0x00 ∷ []) 1 ≡ malformed_in House 2
  pub neither_has_it : location_of (0x00 ∷ []) (0x01 ∷ 0x07 ∷ []) 2 ≡ no_location no_such_chute
