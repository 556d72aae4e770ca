-- The flag is handed there and back; the key stands as it is.
use Rattle.c_flag.specs.FlagLaws.{flag_back}
use Rattle.c_generator_state.specs.ThereAndBack.{ThereAndBack}

pub generator_back : ThereAndBack
generator_back g = rw (flag_back g.seeded)
