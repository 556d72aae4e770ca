-- The examples are computed from the definitions.
use mathlib.Core.Path.{refl}
use Rattle.old_number.specs.OldNumber.{old_groups}
use Rattle.plan_read.specs.Plan.{rows_by, plan_by}
use Rattle.leb128_write.specs.Written.{written_groups}
use Rattle.plan_length.specs.Length.{written_rows, written_plan, rows_allowed, allowed, length_of}
use Rattle.plan_write.specs.Write.{fills, write_refusal, written_of}
use Rattle.plan_migration.specs.Migration.{migrated_length_of}
use Rattle.migration_theorems.specs.Examples.{MigrationExamples}

pub migration_examples : MigrationExamples
unfolding old_groups rows_by plan_by written_groups written_rows written_plan rows_allowed allowed length_of fills write_refusal written_of migrated_length_of
migration_examples =
    record {
      zero_in_two = refl;
      zero_in_three = refl;
      seven_in_two = refl;
      seven_in_three = refl;
      seven_in_one = refl;
      three_hundred_in_three = refl;
      one_row_in_two = refl;
      no_rows_in_two = refl;
      too_many_in_three = refl;
      needed_buffer = refl;
      longer_refused = refl;
      shorter_refused = refl;
      longer_buffer = refl;
      shorter_buffer = refl;
      no_bytes = refl;
      cut_row = refl;
      cut_row_refused = refl;
      fourth_group = refl;
      after_a_row = refl;
    }
