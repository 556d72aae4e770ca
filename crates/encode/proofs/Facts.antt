-- Each fact holds by computation, once the definitions are opened.
use mathlib.Core.Path.{refl}
use Rattle.encode.specs.Digits.{width_in}
use Rattle.encode.specs.Padding.{pad_to, with_last_bit, padded}
use Rattle.encode.specs.Encode.{big_endian, left_encode, right_encode, encode_string, bytepad}
use Rattle.encode.specs.Facts.{Facts, LastBlock}

pub facts : Facts
unfolding left_encode right_encode encode_string big_endian width_in
facts = record { p1 = refl; p2 = refl; p3 = refl; p4 = refl; p5 = refl; p6 = refl; p7 = refl }

pub last_block : LastBlock
unfolding padded pad_to with_last_bit bytepad left_encode big_endian width_in
last_block = record { last_of_shake = refl; last_of_cshake = refl; full = refl; no_block_more = refl; block_more = refl }
