-- The examples are computed from the definitions.
use mathlib.Core.Path.{refl}
use Rattle.leb128.specs.Number.{groups}
use Rattle.leb128_write.specs.Written.{written_groups}
use Rattle.hall_entry.specs.Entries.{destinations, entries_with, inner_of}
use Rattle.hall_entry.specs.Bytes.{byte_head}
use Rattle.hall_read.specs.Halls.{halls_of}
use Rattle.hall.specs.Answers.{hall_summary_of, hall_lookup_of}
use Rattle.hall_lists.specs.Lists.{lists_kinds, lists_values}
use Rattle.hall_check.specs.Lists.{pairs, list_head, halls_allowed, lists_allowed}
use Rattle.hall_length.specs.Written.{written_entries, written_halls}
use Rattle.hall_length.specs.Length.{hall_length_of}
use Rattle.hall_write.specs.Write.{halls_fill, hall_write_refusal, hall_written_of}
use Rattle.hall_theorems.specs.Examples.{two_entries, eight_levels, nine_levels, HallExamples}

pub hall_examples : HallExamples
unfolding two_entries eight_levels nine_levels hall_summary_of hall_lookup_of lists_kinds lists_values halls_of byte_head entries_with inner_of destinations
    groups hall_length_of hall_written_of hall_write_refusal halls_fill lists_allowed halls_allowed list_head pairs written_halls written_entries written_groups
hall_examples =
    record {
      summary = refl;
      chute_2 = refl;
      chute_3 = refl;
      chute_4 = refl;
      chute_0 = refl;
      kinds = refl;
      values = refl;
      shorter_list = refl;
      length = refl;
      written = refl;
      longer_list = refl;
      unequal_lists = refl;
      fewer_follow = refl;
      more_follow = refl;
      value_too_large = refl;
      longer_buffer = refl;
      long_buffer = refl;
      no_entries = refl;
      empty_hall = refl;
      empty_halls = refl;
      no_bytes = refl;
      kind_2 = refl;
      bytes_after = refl;
      more_promised = refl;
      level_8 = refl;
      level_9 = refl;
    }
