-- The edges of the lengths' refusals, and their order (docs/RULES.md, 'Numbers'), by computation: key, IV, text, label, output, tag.
-- proofs/Facts.antt proves them.
use Rattle.std.specs.Prelude.{◌≡◌}
use Rattle.aead.specs.Limits.{least_tag}
use Rattle.aead.specs.Refusals.{lengths_refusal}

pub record LengthsFacts : Type 0 where
  pub key31 : lengths_refusal least_tag 31 0 0 0 0 16 ≡ 2
  pub key32 : lengths_refusal least_tag 32 0 0 0 0 16 ≡ 0
  pub key33 : lengths_refusal least_tag 33 0 0 0 0 16 ≡ 2
  pub iv4096 : lengths_refusal least_tag 32 4096 0 0 0 16 ≡ 0
  pub iv4097 : lengths_refusal least_tag 32 4097 0 0 0 16 ≡ 3
  pub text : lengths_refusal least_tag 32 0 16777215 1 16777215 16 ≡ 0
  pub long_text : lengths_refusal least_tag 32 0 16777216 1 16777216 16 ≡ 5
  pub short_output : lengths_refusal least_tag 32 0 5 0 4 16 ≡ 6
  pub long_output : lengths_refusal least_tag 32 0 5 0 6 16 ≡ 6
  pub tag15 : lengths_refusal least_tag 32 0 0 0 0 15 ≡ 7
  pub tag64 : lengths_refusal least_tag 32 0 0 0 0 64 ≡ 0
  pub tag65 : lengths_refusal least_tag 32 0 0 0 0 65 ≡ 7
  -- the smallest number that applies
  pub key_first : lengths_refusal least_tag 31 4097 16777217 0 0 0 ≡ 2
  pub iv_next : lengths_refusal least_tag 32 4097 16777217 0 0 0 ≡ 3
  pub text_next : lengths_refusal least_tag 32 0 16777217 0 0 0 ≡ 5
  pub output_next : lengths_refusal least_tag 32 0 5 0 4 0 ≡ 6
