-- The edges of migration (docs/RULES.md, 'Migration'), by the answers that the entries promise.
use Rattle.std.specs.Prelude.{ℕ, ◌≡◌, List, [], ◌∷◌}
use Rattle.answers.specs.Numbers.{done, malformed_plan}
use Rattle.plan_length.specs.Length.{length_is, refused_length, write_answer}
use Rattle.plan_migration.specs.Migration.{old_plan_of, migrated_length_of, migrate_answer, migrated_into}

-- a buffer of as many bytes
abbrev pub two : List ℕ
two = 9 ∷ 9 ∷ []

pub record MigrationExamples : Type 0 where
  -- 0 and 7 in two and three groups, and in one
  pub zero_in_two : migrated_into two (old_plan_of (0x01 ∷ 0x80 ∷ 0x00 ∷ [])) ≡ 0x01 ∷ 0x00 ∷ []
  pub zero_in_three : migrated_into two (old_plan_of (0x01 ∷ 0x80 ∷ 0x80 ∷ 0x00 ∷ [])) ≡ 0x01 ∷ 0x00 ∷ []
  pub seven_in_two : migrated_into two (old_plan_of (0x01 ∷ 0x87 ∷ 0x00 ∷ [])) ≡ 0x01 ∷ 0x07 ∷ []
  pub seven_in_three : migrated_into two (old_plan_of (0x01 ∷ 0x87 ∷ 0x80 ∷ 0x00 ∷ [])) ≡ 0x01 ∷ 0x07 ∷ []
  pub seven_in_one : migrated_into two (old_plan_of (0x01 ∷ 0x07 ∷ [])) ≡ 0x01 ∷ 0x07 ∷ []
  pub three_hundred_in_three : migrated_length_of (0x01 ∷ 0xAC ∷ 0x82 ∷ 0x00 ∷ []) ≡ length_is 3
  -- a number of rows in more groups than it needs: one, none, and 4,097, which is too many by either rule
  pub one_row_in_two : migrated_into two (old_plan_of (0x81 ∷ 0x00 ∷ 0x07 ∷ [])) ≡ 0x01 ∷ 0x07 ∷ []
  pub no_rows_in_two : migrated_length_of (0x80 ∷ 0x00 ∷ []) ≡ length_is 1
  pub too_many_in_three : migrated_length_of (0x81 ∷ 0xA0 ∷ 0x00 ∷ []) ≡ refused_length malformed_plan 0
  -- a buffer of the length needed, and one of another length, which is as before: refused with 9, and with no place since the plan is read
  pub needed_buffer : migrate_answer 2 (old_plan_of (0x01 ∷ 0x87 ∷ 0x00 ∷ [])) ≡ write_answer done
  pub longer_refused : migrate_answer 3 (old_plan_of (0x01 ∷ 0x87 ∷ 0x00 ∷ [])) ≡ write_answer malformed_plan
  pub shorter_refused : migrate_answer 1 (old_plan_of (0x01 ∷ 0x87 ∷ 0x00 ∷ [])) ≡ write_answer malformed_plan
  pub longer_buffer : migrated_into (9 ∷ 9 ∷ 9 ∷ []) (old_plan_of (0x01 ∷ 0x87 ∷ 0x00 ∷ [])) ≡ 9 ∷ 9 ∷ 9 ∷ []
  pub shorter_buffer : migrated_into (9 ∷ []) (old_plan_of (0x01 ∷ 0x87 ∷ 0x00 ∷ [])) ≡ 9 ∷ []
  -- plans that the old rule refuses too, with the places that it tells
  pub no_bytes : migrated_length_of [] ≡ refused_length malformed_plan 0
  pub cut_row : migrated_length_of (0x01 ∷ 0x87 ∷ []) ≡ refused_length malformed_plan 2
  pub cut_row_refused : migrate_answer 2 (old_plan_of (0x01 ∷ 0x87 ∷ [])) ≡ record { number = malformed_plan; place = 2 }
  pub fourth_group : migrated_length_of (0x01 ∷ 0x80 ∷ 0x80 ∷ 0x80 ∷ 0x00 ∷ []) ≡ refused_length malformed_plan 3
  pub after_a_row : migrated_length_of (0x01 ∷ 0x87 ∷ 0x00 ∷ 0x00 ∷ []) ≡ refused_length malformed_plan 3
