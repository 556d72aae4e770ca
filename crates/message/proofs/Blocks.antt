-- The blocks of three pieces: whole blocks of each, and those that the three ends make together.
use mathlib.Core.Path.{◌≡◌}
use Prim.Native.Nat.{ℕ, ◌+◌, ◌/◌, ◌%◌}
use native.Mathlib.Omega.{arith}
use Rattle.encode.specs.Padding.{rate}

pub blocks_joined : (a b c : ℕ) → a / rate + b / rate + c / rate + (a % rate + b % rate + c % rate) / rate + 1 ≡ (a + b + c) / rate + 1
blocks_joined a b c = omega arith
