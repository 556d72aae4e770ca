-- A case that a program of the gate reads: a letter, words of four bytes, and two strings, whose lengths the first two words say. From 2^24 on a length means
-- that many zeros less 2^24, and none stand there.
use Rattle.std.specs.Prelude.{◌≡◌, List, ℕ, ◌-◌, cond, ltb, take, drop, get_or}
use Rattle.testing.specs.Data.{word_of}
use Rattle.cases.specs.declared.Case.{Case}

abbrev pub zeros_from : ℕ
zeros_from = 16777216

-- how many bytes stand there for a length
abbrev pub standing : ℕ → ℕ
standing n = cond (ltb n zeros_from) n 0

-- the string of a length n that stands first in s
abbrev pub string_of : ℕ → (s zeros : List ℕ) → List ℕ
string_of n s zeros = cond (ltb n zeros_from) (take n s) (take (n - zeros_from) zeros)

-- the words of a case with so many bytes before its strings, and its two lengths
abbrev pub words_of : ℕ → List ℕ → List ℕ
words_of head s = drop 1 (take head s)

abbrev pub first_length : ℕ → List ℕ → ℕ
first_length head s = word_of (words_of head s)

abbrev pub second_length : ℕ → List ℕ → ℕ
second_length head s = word_of (drop 4 (words_of head s))

-- the bytes after a case's words, after its first string, and after the case
abbrev pub after_words : ℕ → List ℕ → List ℕ
after_words head s = drop head s

abbrev pub after_first : ℕ → List ℕ → List ℕ
after_first head s = drop (standing (first_length head s)) (after_words head s)

abbrev pub after_case : ℕ → List ℕ → List ℕ
after_case head s = drop (standing (second_length head s)) (after_first head s)

-- c is the case that stands first in s
pub record Reads (head : ℕ) (s zeros : List ℕ) (c : Case) : Type 0 where
  pub letter : c.letter ≡ get_or s 0 0
  pub words : c.words.now ≡ words_of head s
  pub first : c.first.now ≡ string_of (first_length head s) (after_words head s) zeros
  pub second : c.second.now ≡ string_of (second_length head s) (after_first head s) zeros
