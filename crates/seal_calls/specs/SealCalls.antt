-- KMACXOF256 as the sponge runs it for a seal: for strings of every length, also those that a start refuses.
use Rattle.std.specs.Prelude.{◌≡◌, List, [], ◌∷◌, ◌++◌, ℕ, ◌+◌, ◌/◌, ◌≤◌, length}
use Rattle.encode.specs.Padding.{rate}
use Rattle.calls.specs.Start.{keyed}
use Rattle.calls.specs.Count.{output_runs}
use Rattle.sponge.specs.declared.Sponge.{Sponge}
use Rattle.sponge.specs.Running.{Running, running, absorbed, finished, squeezed, after}
use Rattle.start.specs.Started.{start_state, most_blocks}
use Rattle.aead.specs.Limits.{authentication_key_length}
use Rattle.seal_calls.specs.declared.Stream.{Stream}

-- right_encode(0)
abbrev pub zero_code : List ℕ
zero_code = 0x00 ∷ 0x01 ∷ []

-- the sponge after the whole input of KMACXOF256 with the key K, the customisation S and the message x
unfoldable pub xof_running : (K S x : List ℕ) → Running
xof_running K S x = finished (start_state (keyed K S)).suffix (absorbed (running (start_state (keyed K S)).lanes 0) (x ++ zero_code))

-- the permutations of the call for n bytes of output
unfoldable pub xof_runs : (K S x : List ℕ) → ℕ → ℕ
xof_runs K S x n = (start_state (keyed K S)).blocks + (length (x ++ zero_code) / rate + 1) + output_runs n

-- the code's sponge where it stands so
abbrev pub sponge_at : Running → Sponge
sponge_at u = record { lanes = u.lanes; position = u.position }

-- the key stream for a text of n bytes: its authentication key, and the sponge that gives the rest
abbrev pub stream_begun : (key iv : List ℕ) → ℕ → Stream
stream_begun key iv n =
    record {
      authentication = squeezed authentication_key_length (xof_running key iv []);
      sponge = sponge_at (after authentication_key_length (xof_running key iv []));
      runs = xof_runs key iv [] (authentication_key_length + n);
    }

-- the answer, with a bound on the blocks of its start
pub record Begins (key iv : List ℕ) (n : ℕ) (r : Stream) : Type 0 where
  pub is : r ≡ stream_begun key iv n
  pub bounded : (start_state (keyed key iv)).blocks ≤ most_blocks

-- a tag of t bytes over a ciphertext and a label, in r permutations, with the same bound
pub record TagMade (authentication ciphertext label tag : List ℕ) (t r : ℕ) : Type 0 where
  pub is : tag ≡ squeezed t (xof_running authentication [] (ciphertext ++ label))
  pub runs : r ≡ xof_runs authentication [] (ciphertext ++ label) t
  pub bounded : (start_state (keyed authentication [])).blocks ≤ most_blocks
