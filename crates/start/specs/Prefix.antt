-- What the private functions of a start do: a string padded to whole blocks and put into the sponge at position 0. No public contract cites it.
use Rattle.std.specs.Prelude.{◌≡◌, List, ℕ, ◌/◌, ◌≤◌, length}
use Rattle.encode.specs.Padding.{rate}
use Rattle.encode.specs.Encode.{bytepad}
use Rattle.sponge.specs.declared.Sponge.{Sponge}
use Rattle.sponge.specs.Running.{running, state_of, absorbed}

-- from the lanes of s to the sponge t, in r blocks
pub record Padded (x : List ℕ) (s t : Sponge) (r : ℕ) : Type 0 where
  pub is : state_of t ≡ absorbed (running s.lanes 0) (bytepad x rate)
  pub begins : t.position ≡ 0
  pub blocks : r ≡ length (bytepad x rate) / rate
  pub bounded : r ≤ 64
