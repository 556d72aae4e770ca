-- Each fact holds by computation, once the definitions are opened.
use mathlib.Core.Path.{refl}
use Rattle.encode.specs.Digits.{width_in}
use Rattle.encode.specs.Padding.{pad_to, with_last_bit, padded}
use Rattle.encode.specs.Encode.{big_endian, right_encode, left_encode, encode_string, bytepad}
use Rattle.calls.specs.Input.{fed_bytes}
use Rattle.calls.specs.Call.{fed}
use Rattle.seeding.specs.Seeding.{seed_lengths_refusal}
use Rattle.seeding.specs.Facts.{SeedingFacts}

pub seeding_facts : SeedingFacts
unfolding seed_lengths_refusal fed fed_bytes padded with_last_bit pad_to bytepad encode_string left_encode right_encode big_endian width_in
seeding_facts =
    record {
      personalisation84 = refl;
      personalisation85 = refl;
      seed65536 = refl;
      seed65537 = refl;
      cshake = refl;
      kmac = refl;
    }
