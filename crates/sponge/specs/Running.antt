-- The sponge a byte at a time: its lanes, and the position of the next byte in the block. specs/Same.antt says that it is the sponge of FIPS 202.
-- Absorbing permutes as soon as a block is full, so the permutations so far are the whole blocks absorbed. Squeezing permutes before the first byte of
-- the next block, so that a block that is never asked for costs nothing.
use Rattle.std.specs.Prelude.{cond, List, [], ◌∷◌, ℕ, zero, suc, ◌+◌, ◌-◌, ltb, replicate}
use Rattle.fips202.specs.Fips202.{keccak_p}
use Rattle.fips202.specs.Bytes.{xor_byte, byte_at}
use Rattle.encode.specs.Padding.{rate}
use Rattle.sponge.specs.declared.Sponge.{Sponge}

pub record Running : Type 0 where
  pub lanes : List ℕ
  pub position : ℕ

abbrev pub running : List ℕ → ℕ → Running
running a p = record { lanes = a; position = p }

-- where the code's sponge stands
abbrev pub state_of : Sponge → Running
state_of s = running s.lanes s.position

-- before any input
abbrev pub fresh : Running
fresh = running (replicate 25 0) 0

-- one byte of input
unfoldable pub absorb_byte : Running → ℕ → Running
absorb_byte s b =
    cond (ltb s.position (rate - 1)) (running (xor_byte s.lanes s.position b) (s.position + 1))
    (running (keccak_p (xor_byte s.lanes s.position b)) 0)

unfoldable pub absorbed : Running → List ℕ → Running
absorbed s [] = s
absorbed s (b ∷ bs) = absorbed (absorb_byte s b) bs

-- the end of the input: the suffix byte, zeros, 80 in the last byte, and the last block's permutation
unfoldable pub finished : ℕ → Running → Running
finished suffix s = running (keccak_p (xor_byte (xor_byte s.lanes s.position suffix) (rate - 1) 0x80)) 0

-- the next block, where one has been squeezed whole
unfoldable pub refreshed : Running → Running
refreshed s = cond (ltb s.position rate) s (running (keccak_p s.lanes) 0)

-- the next byte of output, and the sponge after it
unfoldable pub squeezed_byte : Running → ℕ
squeezed_byte s = byte_at (refreshed s).lanes (refreshed s).position

unfoldable pub after_byte : Running → Running
after_byte s = running (refreshed s).lanes ((refreshed s).position + 1)

-- n bytes of output, and the sponge after them
unfoldable pub squeezed : ℕ → Running → List ℕ
squeezed zero s = []
squeezed (suc n) s = squeezed_byte s ∷ squeezed n (after_byte s)

unfoldable pub after : ℕ → Running → Running
after zero s = s
after (suc n) s = after n (after_byte s)
