-- KMACXOF256 gives as many bytes as are asked for, and a shorter output is the beginning of a longer one.
use native.Mathlib.Omega.{arith}
use Rattle.calls.specs.Call.{fed}
use Rattle.sponge.proofs.Whole.{length_sponge, sponge_prefix}
use Rattle.aead.specs.Aead.{Lawful}
use Rattle.seal.specs.Kmac.{stream_call, tag_call, kmac_aead}

pub kmac_lawful : Lawful kmac_aead
unfolding fed
kmac_lawful =
    record {
      stream_length = λ key iv n. length_sponge (fed (stream_call key iv n)) n;
      tag_length = λ k x l t. length_sponge (fed (tag_call k x l t)) t;
      tag_cut = λ k x l m t h. sponge_prefix (fed (tag_call k x l m)) m t h;
      least_tags = omega arith;
    }
