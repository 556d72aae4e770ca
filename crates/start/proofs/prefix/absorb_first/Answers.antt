-- The encoded rate and the code are in one lane, and the string follows (`Strings.headed_absorbed`).
use Rattle.std.proofs.Common.{rules, arith, ap, ◌≡◌, ◌*◌, ◌+◌, length}
use Rattle.encode.specs.declared.Code.{Code}
use Rattle.encode.specs.Digits.{number_of}
use Rattle.encode.specs.Encode.{left_encode}
use Rattle.encode.specs.Answer.{code_of}
use Rattle.encode.proofs.Laws.Lengths.{length_encode_string, length_left_encode}
use Rattle.start.proofs.Strings.{encoded_rate, rate_encoded, headed_absorbed}
use Rattle.start.proofs.prefix.absorb_first.Goals as goal

pub returns : goal.returns
unfolding code_of
returns c =
    let s = c.args.s.bytes.now in
    let code = c.left_code-code in
    let word : code.result.word ≡ number_of 256 (left_encode (8 * length s)) = ap (λ (u : Code). u.word) code.ensures.0 in
    let len : code.result.len ≡ length (left_encode (8 * length s)) = ap (λ (u : Code). u.len) code.ensures.0 in (
      omega (arith, len, length_encode_string s, length_left_encode (8 * length s)),
      omega (arith, code.ensures.2, c.args.s.fits),
      rw rate_encoded
          (headed_absorbed c.args.sponge.now.lanes c.xor_word.new.lanes _ encoded_rate s 0 (0x8801 + code.result.word * 0x1_0000) (2 + code.result.len) _
          (search rules) c.args.s.fits (omega (arith, len, code.ensures.2)) (omega arith)
          (omega (arith, word)) (omega (arith, len)) c.xor_word.ensures c.absorb.ensures.0),
      c.absorb.ensures.1,
    )
