-- The encoded key after left_encode of the rate, and zeros, are bytepad of the key (`Strings.padded`).
use Rattle.std.proofs.Common.{arith}
use Rattle.encode.specs.Encode.{encode_string}
use Rattle.encode.proofs.Laws.Lengths.{length_bytepad}
use Rattle.start.proofs.Strings.{padded}
use Rattle.start.proofs.prefix.absorb_key.Goals as goal

pub returns : goal.returns
returns c =
    let K = encode_string c.args.key.bytes.now in
    let e = c.absorb_first-total.ensures in
    let k = c.absorb_first-total.new.sponge in
    record {
      is = padded c.args.sponge.now.lanes k.lanes _ K k.position _ e.3 e.2 c.pad_zeros.ensures.0;
      begins = c.pad_zeros.ensures.1;
      blocks = omega (arith, c.div_ceil.ensures, length_bytepad K, e.0);
      bounded = omega (arith, c.div_ceil.ensures, e.1);
    }
