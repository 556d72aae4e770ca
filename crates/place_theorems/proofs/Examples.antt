-- The examples are computed from the definitions.
use mathlib.Core.Path.{refl}
use Rattle.leb128.specs.Number.{groups}
use Rattle.plan_read.specs.Plan.{rows_by, plan_by}
use Rattle.plan.specs.Answers.{summary_of, chute_row_of, lookup_of}
use Rattle.plan_pair.specs.Pair.{location_of}
use Rattle.hall_entry.specs.Entries.{destinations, entries_with, inner_of}
use Rattle.hall_entry.specs.Bytes.{byte_head}
use Rattle.hall_read.specs.Halls.{halls_of}
use Rattle.hall.specs.Answers.{hall_summary_of}
use Rattle.hall_lists.specs.Lists.{lists_summary}
use Rattle.place_theorems.specs.Examples.{PlaceExamples}

pub place_examples : PlaceExamples
unfolding summary_of lookup_of chute_row_of plan_by rows_by groups location_of hall_summary_of halls_of lists_summary byte_head entries_with inner_of
    destinations
place_examples =
    record {
      no_bytes = refl;
      no_row = refl;
      cut_row = refl;
      cut_third_group = refl;
      whole_row = refl;
      fourth_group = refl;
      fourth_group_of_rows = refl;
      zero_in_two = refl;
      zero_in_three = refl;
      zero_in_one = refl;
      seven_in_two = refl;
      seven_in_three = refl;
      seven_in_one = refl;
      middle_group_of_0 = refl;
      no_rows_in_two = refl;
      three_rows_in_two = refl;
      too_many_in_three = refl;
      second_row_cut = refl;
      most_rows = refl;
      too_many_rows = refl;
      after_no_row = refl;
      after_a_row = refl;
      looked_up = refl;
      found = refl;
      missing = refl;
      kind_1 = refl;
      kind_2 = refl;
      kind_300 = refl;
      kind_of_four_groups = refl;
      kind_0_in_two = refl;
      kind_1_in_three = refl;
      kind_2_in_two = refl;
      outermost_in_two = refl;
      entries_in_two = refl;
      destination_in_two = refl;
      last_level = refl;
      level_too_deep_lem = refl;
      last_chute = refl;
      chute_too_many = refl;
      chute_too_many_in_two = refl;
      after_an_entry = refl;
      kind_before_value = refl;
      value_before_kind = refl;
      wrong_lists = refl;
      malformed_lists = refl;
      both_malformed = refl;
      house_malformed = refl;
      house_malformed_alone = refl;
      house_in_two = refl;
      neither_has_it = refl;
    }
