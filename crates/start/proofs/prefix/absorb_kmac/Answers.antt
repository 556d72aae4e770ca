-- left_encode of the rate and the name are the first lane, the code of the customisation is in the second (`Strings.headed_absorbed`); then as for any name.
use Rattle.std.proofs.Common.{rules, arith, ap, ◌≡◌, ◌*◌, ◌+◌, [], ◌++◌, length, length-append}
use Rattle.encode.specs.declared.Code.{Code}
use Rattle.encode.specs.Digits.{number_of}
use Rattle.encode.specs.Encode.{left_encode, encode_string, KMAC}
use Rattle.encode.specs.Answer.{code_of}
use Rattle.encode.proofs.Laws.Lengths.{length_bytepad, length_encode_string, length_left_encode}
use Rattle.start.proofs.Strings.{headed_absorbed, kmac_length, kmac_absorbed, joined_strings, padded}
use Rattle.start.proofs.prefix.absorb_kmac.Goals as goal

pub returns : goal.returns
unfolding code_of
returns c =
    let a = c.args.sponge.now.lanes in
    let s = c.args.customisation.bytes.now in
    let code = c.left_code-code in
    let word : code.result.word ≡ number_of 256 (left_encode (8 * length s)) = ap (λ (u : Code). u.word) code.ensures.0 in
    let len : code.result.len ≡ length (left_encode (8 * length s)) = ap (λ (u : Code). u.len) code.ensures.0 in
    let name = c.xor_word.new.lanes in
    let put = c.absorb.new.self in
    let x = encode_string KMAC ++ encode_string s in
    let customised =
    headed_absorbed name c.xor_word-2.new.lanes put.lanes [] s 1 code.result.word (8 + code.result.len) put.position (search rules)
    c.args.customisation.fits (omega (arith, len, code.ensures.2)) (omega arith) word (omega (arith, len)) c.xor_word-2.ensures c.absorb.ensures.0 in
    let all =
    joined_strings a name put.lanes (encode_string KMAC) (encode_string s) 8 put.position (omega arith) (kmac_absorbed a name c.xor_word.ensures)
    customised in
    record {
      is = padded a put.lanes _ x put.position _ c.absorb.ensures.1 all c.pad_zeros.ensures.0;
      begins = c.pad_zeros.ensures.1;
      blocks =
          omega (
            arith,
            c.div_ceil.ensures,
            len,
            length_bytepad x,
            length-append (encode_string KMAC) (encode_string s),
            length_encode_string s,
            length_left_encode (8 * length s),
            kmac_length,
          );
      bounded = omega (arith, c.div_ceil.ensures, code.ensures.2, c.args.customisation.fits);
    }
