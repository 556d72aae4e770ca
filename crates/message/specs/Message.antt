-- A whole message and its padding put into a sponge.
use Rattle.std.specs.Prelude.{◌≡◌, List, ℕ, ◌+◌, ◌/◌, ◌%◌, length}
use Rattle.encode.specs.Padding.{rate}
use Rattle.sponge.specs.declared.Sponge.{Sponge}
use Rattle.sponge.specs.Running.{running, state_of, absorbed, finished}

-- from the sponge s to the sponge t by the message m, in r permutations where s stands at position 0
pub record MessageAbsorbed (suffix : ℕ) (s : Sponge) (m : List ℕ) (t : Sponge) (r : ℕ) : Type 0 where
  pub is : state_of t ≡ finished suffix (absorbed (running s.lanes (s.position % rate)) m)
  pub begins : t.position ≡ 0
  pub blocks : r ≡ length m / rate + 1
