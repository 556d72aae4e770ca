-- The KMAC AEAD: the key stream and the tag of a seal are KMACXOF256's (KMAC AEAD, 1.2.2 and 1.2.3; docs/RULES.md, 'Sealing').
use Rattle.std.specs.Prelude.{List, [], ◌++◌, ℕ}
use Rattle.calls.specs.Call.{Call, KMACXOF256, kmacxof256, fed}
use Rattle.calls.specs.Count.{runs}
use Rattle.sponge.specs.Sponge.{sponge}
use Rattle.aead.specs.Limits.{least_tag}
use Rattle.aead.specs.Aead.{Construction}

-- 1.2.2: KMACXOF256(K = key, X empty, S = IV). What the authentication key adds to the length counts towards no limit.
abbrev pub stream_call : (key iv : List ℕ) → ℕ → Call KMACXOF256
stream_call key iv n = kmacxof256 key [] n iv

-- 1.2.3: KMACXOF256(K = authentication key, X = ciphertext then label, S empty)
abbrev pub tag_call : (authentication ciphertext label : List ℕ) → ℕ → Call KMACXOF256
tag_call authentication ciphertext label t = kmacxof256 authentication (ciphertext ++ label) t []

abbrev pub kmac_aead : Construction
kmac_aead =
    record {
      key_stream = λ key iv n. sponge (fed (stream_call key iv n)) n;
      stream_runs = λ key iv n. runs (stream_call key iv n);
      tag = λ authentication ciphertext label t. sponge (fed (tag_call authentication ciphertext label t)) t;
      tag_runs = λ authentication ciphertext label t. runs (tag_call authentication ciphertext label t);
      least_sealed = least_tag;
      least_opened = least_tag;
    }
