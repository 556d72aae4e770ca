-- The fed bytes are computed, once the definitions are opened.
use mathlib.Core.Path.{refl}
use Rattle.encode.specs.Digits.{width_in}
use Rattle.encode.specs.Padding.{pad_to, with_last_bit, padded}
use Rattle.encode.specs.Encode.{big_endian, left_encode, right_encode, encode_string, bytepad}
use Rattle.calls.specs.Input.{fed_bytes}
use Rattle.calls.specs.Call.{fed}
use Rattle.calls.specs.Samples.{Samples}

pub samples : Samples
unfolding fed fed_bytes padded with_last_bit pad_to bytepad encode_string left_encode right_encode big_endian width_in
samples = record { cshake3 = refl; kmac4 = refl; kmacxof4 = refl; shake = refl }
