-- Each is computed from the definition.
use mathlib.Core.Path.{refl}
use Rattle.aead.specs.Refusals.{lengths_refusal}
use Rattle.aead.specs.Facts.{LengthsFacts}

pub lengths_facts : LengthsFacts
unfolding lengths_refusal
lengths_facts =
    record {
      key31 = refl;
      key32 = refl;
      key33 = refl;
      iv4096 = refl;
      iv4097 = refl;
      text = refl;
      long_text = refl;
      short_output = refl;
      long_output = refl;
      tag15 = refl;
      tag64 = refl;
      tag65 = refl;
      key_first = refl;
      iv_next = refl;
      text_next = refl;
      output_next = refl;
    }
