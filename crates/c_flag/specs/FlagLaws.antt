-- What C was handed, lent again, is the flag that it was.
use Rattle.std.specs.Prelude.{◌≡◌, refl, Bool, true, false}
use Rattle.c_flag.specs.Flag.{flag, is_set}

pub flag_back : (b : Bool) → is_set (flag b) ≡ b
flag_back true = refl
flag_back false = refl
