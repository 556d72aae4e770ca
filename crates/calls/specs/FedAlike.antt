-- Demand 3 of the three functions: one claim over all pairs of accepted calls, of one function or of two. proofs/FedAlike.antt proves it.
use Rattle.std.specs.Prelude.{◌≡◌, ◌↔◌}
use Rattle.calls.specs.Call.{Function, Call, Accepted, fed}
use Rattle.calls.specs.Arguments.{arguments}

-- Two calls are fed alike, in docs/RULES.md's words, if their padded bytes are equal in number and value.
abbrev pub FedAlike : {f g : Function} → Call f → Call g → Type 0
FedAlike a b = fed a ≡ fed b

-- two accepted calls are fed alike exactly when the arguments that count are equal
abbrev pub FedAlikeExactly : Type 0
FedAlikeExactly = (f g : Function) (a : Call f) (b : Call g) → Accepted a → Accepted b → FedAlike a b ↔ (arguments a ≡ arguments b)
