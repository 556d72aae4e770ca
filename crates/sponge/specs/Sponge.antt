-- The sponge with Keccak-p[1600, 24] at a rate of 136 bytes: FIPS 202, chapter 4, over input that is padded already.
use Rattle.std.specs.Prelude.{ℕ, ◌/◌, List, length, take, replicate}
use Rattle.encode.specs.Padding.{rate, blocks}
use Rattle.blocks_in.specs.Blocks.{absorb}
use Rattle.blocks_out.specs.Blocks.{squeeze}

-- 4, algorithm 8: d bytes of output for the padded input m. The state of zeros is step 5, `absorb` step 6, `squeeze` steps 7, 8 and 10, and `take d` step 9
unfoldable pub sponge : List ℕ → ℕ → List ℕ
sponge m d = take d (squeeze (blocks d) (absorb (length m / rate) (replicate 25 0) m))
