-- The two encoded strings after left_encode of the rate, and zeros, are bytepad of the strings joined (`Strings.padded`).
use Rattle.std.proofs.Common.{arith, ◌++◌, length-append}
use Rattle.encode.specs.Encode.{encode_string}
use Rattle.encode.proofs.Laws.Lengths.{length_bytepad}
use Rattle.start.proofs.Strings.{joined_strings, padded}
use Rattle.start.proofs.prefix.absorb_name.Goals as goal

pub returns : goal.returns
returns c =
    let a = c.args.sponge.now.lanes in
    let N = encode_string c.args.name.bytes.now in
    let S = encode_string c.args.customisation.bytes.now in
    let name = c.absorb_first-named in
    let both = c.absorb_string in
    let n = name.new.sponge in
    let b = both.new.sponge in
    let all = joined_strings a n.lanes b.lanes N S n.position b.position name.ensures.3 name.ensures.2 both.ensures.2 in
    record {
      is = padded a b.lanes _ (N ++ S) b.position _ both.ensures.3 all c.pad_zeros.ensures.0;
      begins = c.pad_zeros.ensures.1;
      blocks = omega (arith, c.div_ceil.ensures, length_bytepad (N ++ S), length-append N S, name.ensures.0, both.ensures.0);
      bounded = omega (arith, c.div_ceil.ensures, name.ensures.1, both.ensures.1);
    }
