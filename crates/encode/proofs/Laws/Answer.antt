-- Laws on the answer of `left_encode` and `right_encode`: its first `len` bytes are the code.
use Rattle.std.specs.Prelude.{◌≡◌, refl, List, ℕ, ◌-◌, length, take, replicate}
use Rattle.std.proofs.Common.{ap, ◌∙◌, sym, take_at}
use Rattle.encode.specs.declared.Encoded.{Encoded}
use Rattle.encode.specs.Answer.{encoded, Answers}

pub answers_code : {code : List ℕ} {r : Encoded} → Answers code r → take r.len r.bytes ≡ code
unfolding encoded
answers_code {code} a =
    ap (λ (e : Encoded). take e.len e.bytes) a.is ∙ take_at code (replicate (9 - length code) 0) (length code) refl

pub answers_length : {code : List ℕ} {r : Encoded} → Answers code r → r.len ≡ length code
unfolding encoded
answers_length a = ap (λ (e : Encoded). e.len) a.is

-- so they are as many as a slice of them is asked to have
pub answers_take : {code : List ℕ} {r : Encoded} → Answers code r → r.len ≡ length (take r.len r.bytes)
answers_take a = answers_length a ∙ sym (ap length (answers_code a))
