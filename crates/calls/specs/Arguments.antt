-- The arguments of a call that demand 3 compares: cSHAKE256 has no key and the other two have no name (docs/RULES.md, 'Fed alike'), and the output's length
-- counts for KMAC256 alone. What a function lacks stands as [] or 0.
use Rattle.std.specs.Prelude.{List, [], ℕ}
use Rattle.calls.specs.Call.{Function, cSHAKE256, KMAC256, KMACXOF256, Call, cshake256, kmac256, kmacxof256}

pub record Arguments : Type 0 where
  pub function : Function
  pub name : List ℕ
  pub key : List ℕ
  pub customisation : List ℕ
  pub message : List ℕ
  pub output : ℕ

abbrev pub arguments : {f : Function} → Call f → Arguments
arguments (cshake256 X n N S) = record { function = cSHAKE256; name = N; key = []; customisation = S; message = X; output = 0 }
arguments (kmac256 K X n S) = record { function = KMAC256; name = []; key = K; customisation = S; message = X; output = n }
arguments (kmacxof256 K X n S) = record { function = KMACXOF256; name = []; key = K; customisation = S; message = X; output = 0 }
