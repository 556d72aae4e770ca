-- Each is computed from the definitions, the count of a draw by its law (`Counts`).
use mathlib.Core.Path.{refl}
use Prim.Native.Nat.{◌+◌}
use lib.ListN.{take-append-drop}
use Rattle.encode.specs.Digits.{width_in}
use Rattle.encode.specs.Padding.{pad_to, with_last_bit, padded}
use Rattle.encode.specs.Encode.{big_endian, right_encode, left_encode, encode_string, bytepad}
use Rattle.calls.specs.Input.{fed_bytes}
use Rattle.calls.specs.Call.{fed}
use Rattle.calls.specs.Count.{runs}
use Rattle.sponge.specs.Sponge.{sponge}
use Rattle.seeding.specs.declared.Drng.TheVariants.{Cshake, Kmac}
use Rattle.seeding.specs.Seeding.{key_bytes, seed_lengths_refusal}
use Rattle.pieces.specs.Pieces.{piece_bytes, piece_count}
use Rattle.drng.specs.Calls.{piece_call, generate}
use Rattle.drng.specs.Drng.{draw_refusal, seed_answer}
use Rattle.drng.specs.Facts.{GeneratorFacts}
use Rattle.drng.proofs.Counts.{draw_runs_lem}

pub generator_facts : GeneratorFacts
unfolding generate draw_refusal piece_count seed_answer seed_lengths_refusal runs fed fed_bytes padded with_last_bit pad_to bytepad encode_string
    left_encode right_encode
    big_endian width_in
generator_facts =
    record {
      unseeded = refl;
      unseeded_first = refl;
      additional84 = refl;
      additional85 = refl;
      output = refl;
      long_output = refl;
      cshake0 = λ a key fits size. draw_runs_lem Cshake a key 0 fits size;
      cshake208 = λ a key fits size. draw_runs_lem Cshake a key 208 fits size;
      cshake209 = λ a key fits size. draw_runs_lem Cshake a key 209 fits size;
      kmac0 = λ a key fits size. draw_runs_lem Kmac a key 0 fits size;
      kmac208 = λ a key fits size. draw_runs_lem Kmac a key 208 fits size;
      kmac209 = λ a key fits size. draw_runs_lem Kmac a key 209 fits size;
      cshake_seed134 = refl;
      cshake_seed135 = refl;
      kmac_seed132 = refl;
      kmac_seed133 = refl;
      no_seed = λ d. refl;
      cshake_piece = refl;
      kmac_piece = refl;
      parts = λ d a key. take-append-drop key_bytes (sponge (fed (piece_call d a key)) (key_bytes + piece_bytes));
    }
