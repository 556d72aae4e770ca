-- The strings of SP 800-185, section 2.3, over lists of bytes; all lengths are given in bits.
use Rattle.std.specs.Prelude.{List, [], ◌∷◌, ◌++◌, reverse, ℕ, ◌*◌, length}
use Rattle.encode.specs.Digits.{digits, width}
use Rattle.encode.specs.Padding.{pad_to}

-- 2.3.1: the fewest bytes, at least one, that hold n, the highest first
unfoldable pub big_endian : ℕ → List ℕ
big_endian n = reverse (digits 256 (width 256 n) n)

-- bytes before their number
abbrev pub length_suffixed : List ℕ → List ℕ
length_suffixed l = l ++ (length l ∷ [])

-- bytes after their number
abbrev pub length_prefixed : List ℕ → List ℕ
length_prefixed l = length l ∷ l

-- 2.3.1: right_encode(n)
unfoldable pub right_encode : ℕ → List ℕ
right_encode n = length_suffixed (big_endian n)

-- 2.3.1: left_encode(n)
unfoldable pub left_encode : ℕ → List ℕ
left_encode n = length_prefixed (big_endian n)

-- 2.3.2: encode_string(s)
unfoldable pub encode_string : List ℕ → List ℕ
encode_string s = left_encode (8 * length s) ++ s

-- 2.3.3: bytepad(x, w)
unfoldable pub bytepad : List ℕ → ℕ → List ℕ
bytepad x w = pad_to w (left_encode w ++ x)

-- the function name of KMAC (SP 800-185, 4.3)
abbrev pub KMAC : List ℕ
KMAC = 0x4b ∷ 0x4d ∷ 0x41 ∷ 0x43 ∷ []
