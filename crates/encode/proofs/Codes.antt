-- left_encode of a number of one byte, and of two, as one word.
use mathlib.Core.Path.{◌≡◌, ap, ◌∙◌}
use Prim.Native.Nat.{ℕ, suc, ◌+◌, ◌*◌, ◌/◌, ◌%◌, ◌≤◌, ◌<◌}
use native.Mathlib.Omega.{arith}
use Rattle.encode.specs.declared.Code.{Code}
use Rattle.encode.specs.Digits.{width}
use Rattle.encode.specs.Encode.{big_endian, left_encode}
use Rattle.encode.specs.Answer.{code_of}
use Rattle.encode.specs.Laws.Digits.{width_small, width_big}

abbrev code : ℕ → ℕ → Code
code word len = record { word = word; len = len }

pub one_byte : (n : ℕ) → n < 0x100 → code (1 + n * 0x100) 2 ≡ code_of (left_encode n)
unfolding code_of left_encode big_endian
one_byte n h =
    let w : width 256 n ≡ 1 = width_small 256 (omega arith) n h in
    let e : 1 + n * 256 ≡ (0 * 256 + n % 256) * 256 + 1 = omega arith in
    rw w (ap (λ (k : ℕ). code k 2) e)

pub two_bytes : (n : ℕ) → 0x100 ≤ n → n < 0x1_0000 → code (2 + n / 0x100 * 0x100 + n % 0x100 * 0x1_0000) 3 ≡ code_of (left_encode n)
unfolding code_of left_encode big_endian
two_bytes n l h =
    let w : width 256 n ≡ 2 = width_big 256 (omega arith) n l ∙ ap suc (width_small 256 (omega arith) (n / 256) (omega arith)) in
    let e : 2 + n / 256 * 256 + n % 256 * 65536 ≡ ((0 * 256 + n % 256) * 256 + n / 256 % 256) * 256 + 2 = omega arith in
    rw w (ap (λ (k : ℕ). code k 3) e)
