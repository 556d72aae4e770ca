-- The pieces in a row are the message with its ending.
use mathlib.Core.Path.{◌≡◌, sym, ap, ◌∙◌}
use mathlib.Core.List.{List, [], ◌∷◌, ◌++◌, append_assoc}
use Prim.Native.Nat.{ℕ, ◌%◌}
use lib.ListN.{length}
use Rattle.encode.specs.Digits.{width_in}
use Rattle.encode.specs.Encode.{big_endian, right_encode}
use Rattle.seeding.specs.declared.Drng.TheVariants.{Cshake, Kmac}
use Rattle.generator_input.specs.Input.{byte_suffixed, ending_of}

module _ (x p : List ℕ) where
  -- whatever follows the byte with the length
  joined : (e : List ℕ) → (x ++ p) ++ (length p % 256 ∷ e) ≡ (x ++ byte_suffixed p) ++ e
  joined e =
      append_assoc x p (length p % 256 ∷ e)
      ∙ ap (λ (l : List ℕ). x ++ l) (sym (append_assoc p (length p % 256 ∷ []) e))
      ∙ sym (append_assoc x (byte_suffixed p) e)

  pub cshake_input : (x ++ p) ++ (length p % 256 ∷ []) ≡ (x ++ byte_suffixed p) ++ ending_of Cshake
  cshake_input = joined []

  pub kmac_input_lem : (x ++ p) ++ (length p % 256 ∷ 0x00 ∷ 0x01 ∷ []) ≡ (x ++ byte_suffixed p) ++ ending_of Kmac
  unfolding right_encode big_endian width_in
  kmac_input_lem = joined (0x00 ∷ 0x01 ∷ [])
