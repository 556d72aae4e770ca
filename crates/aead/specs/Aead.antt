-- Sealing by a key stream and a tag, whatever makes the two (KMAC AEAD, 1.2.2 to 1.2.5; docs/RULES.md, 'Sealing').
use Rattle.std.specs.Prelude.{◌≡◌, List, ℕ, ◌+◌, ◌≤◌, length, take, drop}
use Rattle.byte_strings.specs.Combined.{combined}
use Rattle.aead.specs.Limits.{authentication_key_length}

-- what sealing and opening are handed: the text is the one to be sealed, or the one to be opened; the label is the additional authenticated data
pub record SealArguments : Type 0 where
  pub key : List ℕ
  pub iv : List ℕ
  pub text : List ℕ
  pub label : List ℕ

abbrev pub seal_arguments : (key iv text label : List ℕ) → SealArguments
seal_arguments key iv text label = record { key = key; iv = iv; text = text; label = label }

-- what a seal is made of
pub record Construction : Type 0 where
  -- n bytes of key stream for a key and an IV, and their permutations
  pub key_stream : (key iv : List ℕ) → ℕ → List ℕ
  pub stream_runs : (key iv : List ℕ) → ℕ → ℕ
  -- the tag of t bytes over a ciphertext and a label under an authentication key, and its permutations
  pub tag : (authentication ciphertext label : List ℕ) → ℕ → List ℕ
  pub tag_runs : (authentication ciphertext label : List ℕ) → ℕ → ℕ
  -- the shortest tags that sealing makes and that opening takes
  pub least_sealed : ℕ
  pub least_opened : ℕ

-- what is asked of it: lengths are as asked, a shorter tag is the beginning of a longer one, and what is sealed can be opened
pub record Lawful (c : Construction) : Type 0 where
  pub stream_length : (key iv : List ℕ) (n : ℕ) → length (c.key_stream key iv n) ≡ n
  pub tag_length : (authentication ciphertext label : List ℕ) (t : ℕ) → length (c.tag authentication ciphertext label t) ≡ t
  pub tag_cut : (authentication ciphertext label : List ℕ) (m t : ℕ) → m ≤ t
      → take m (c.tag authentication ciphertext label t) ≡ c.tag authentication ciphertext label m
  pub least_tags : c.least_opened ≤ c.least_sealed

module _ (c : Construction) (a : SealArguments) where
  -- the length of the key stream: the authentication key and a byte for each of the text
  abbrev pub stream_bytes : ℕ
  stream_bytes = authentication_key_length + length a.text

  -- 1.2.2: the first bytes of the key stream are the authentication key
  unfoldable pub authentication_key : List ℕ
  authentication_key = take authentication_key_length (c.key_stream a.key a.iv stream_bytes)

  -- and the rest is for the text
  unfoldable pub text_stream : List ℕ
  text_stream = drop authentication_key_length (c.key_stream a.key a.iv stream_bytes)

  -- 1.2.4 and 1.2.5: the ciphertext of a plaintext, and back
  unfoldable pub combined_text : List ℕ
  combined_text = combined a.text text_stream

  -- 1.2.3: the tag of t bytes over a ciphertext and the label
  unfoldable pub tag_of : List ℕ → ℕ → List ℕ
  tag_of ciphertext t = c.tag authentication_key ciphertext a.label t

  -- the permutations of key stream and tag
  unfoldable pub seal_runs : List ℕ → ℕ → ℕ
  seal_runs ciphertext t = c.stream_runs a.key a.iv stream_bytes + c.tag_runs authentication_key ciphertext a.label t
