-- left_encode of the string's length in bits, and the string, put in one after the other (`Strings.string_absorbed`).
use Rattle.std.proofs.Common.{arith, ◌∙◌, ◌≡◌, ◌*◌, ◌%◌, length}
use Rattle.encode.specs.Padding.{rate}
use Rattle.encode.specs.Encode.{left_encode}
use Rattle.encode.proofs.Laws.Answer.{answers_code, answers_length}
use Rattle.encode.proofs.Laws.Lengths.{length_encode_string, length_left_encode}
use Rattle.sponge.specs.Running.{running}
use Rattle.start.proofs.Strings.{string_absorbed}
use Rattle.start.proofs.prefix.absorb_string.Goals as goal

pub returns : goal.returns
returns c =
    let s = c.args.s.bytes.now in
    let old = c.args.sponge.now in
    let code = c.left_encode-code in
    let n : code.result.len ≡ length (left_encode (8 * length s)) = answers_length code.ensures in (
      omega (arith, n, length_encode_string s, length_left_encode (8 * length s)),
      omega (arith, code.ensures.fits, c.args.s.fits),
      string_absorbed (running old.lanes (old.position % rate)) c.absorb.new.self.lanes _ _ s c.absorb.new.self.position _
          (c.as_bytes.ensures ∙ answers_code code.ensures) c.absorb.ensures.1 c.absorb.ensures.0 c.absorb-2.ensures.0,
      c.absorb-2.ensures.1,
    )
