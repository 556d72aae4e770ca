-- A bool as C sees it: 0 for false, 1 for true; read back, any number but 0 is true.
use Rattle.std.specs.Prelude.{ℕ, Bool, true, false, cond, eqb}

abbrev pub flag : Bool → ℕ
flag b = cond b 1 0

abbrev pub is_set : ℕ → Bool
is_set n = cond (eqb n 0) false true
