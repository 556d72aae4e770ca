-- That the sponge a byte at a time is the sponge of FIPS 202 by blocks: whatever was absorbed, in any pieces, then finished and squeezed, gives the bytes of
-- the padded input. proofs/Whole.antt proves it.
use Rattle.std.specs.Prelude.{◌≡◌, List, ℕ}
use Rattle.encode.specs.Padding.{padded}
use Rattle.sponge.specs.Sponge.{sponge}
use Rattle.sponge.specs.Running.{fresh, absorbed, finished, squeezed}

abbrev pub SameSponge : Type 0
SameSponge = (suffix : ℕ) (m : List ℕ) (n : ℕ) → squeezed n (finished suffix (absorbed fresh m)) ≡ sponge (padded suffix m) n
