-- What the two calls put into the sponge is the input of the generator's call, and its count fits.
use mathlib.Core.Path.{◌≡◌, refl, sym, ap, ◌∙◌}
use mathlib.Core.List.{List, ◌++◌}
use Prim.Native.Nat.{ℕ, ◌+◌, ◌^◌, ◌≤◌, ◌<◌}
use native.Mathlib.Omega.{arith}
use mir.Syntax.{w64}
use mir.Val.{Fits}
use lib.ListN.{length, take, drop, length-append}
use Rattle.encode.specs.Digits.{width_in}
use Rattle.encode.specs.Encode.{big_endian, right_encode}
use Rattle.calls.specs.Start.{Start, start_refusal}
use Rattle.calls.specs.Call.{cshake256, kmacxof256, fed, extendable_call}
use Rattle.calls.specs.Count.{output_runs, runs}
use Rattle.sponge.specs.Sponge.{sponge}
use Rattle.sponge.specs.declared.Sponge.{Sponge}
use Rattle.sponge.specs.Running.{Running, running, state_of, squeezed, after}
use Rattle.sponge.proofs.Whole.{squeezed_take, squeezed_drop}
use Rattle.start.specs.declared.Started.{Started}
use Rattle.start.specs.Started.{StartedBy}
use Rattle.message.specs.Message.{MessageAbsorbed}
use Rattle.message.proofs.Calls.{message_output, message_runs}
use Rattle.seeding.specs.declared.Drng.{Drng}
use Rattle.seeding.specs.declared.Drng.TheVariants.{Cshake, Kmac}
use Rattle.seeding.specs.Seeding.{key_bytes, call_start}
use Rattle.generator_input.specs.Input.{byte_suffixed, ending_of}

-- ---- the count

ending_short : (d : Drng) → length (ending_of d) ≤ 2
unfolding right_encode big_endian width_in
ending_short Cshake = omega arith
ending_short Kmac = omega arith

-- the count of a new key, over any seed and personalisation
pub runs_fit : (d : Drng) {t : Start} {s : Started} → StartedBy t s → (x p : List ℕ) {u v : Sponge} {r : ℕ}
    → MessageAbsorbed s.suffix u ((x ++ byte_suffixed p) ++ ending_of d) v r → length x < 2 ^ 64 → length p < 2 ^ 64 → Fits w64 (s.blocks + r)
runs_fit d h x p e hx hp =
    let long : length ((x ++ byte_suffixed p) ++ ending_of d) ≡ length x + length p + 1 + length (ending_of d) = simp length-append (omega arith) in
    omega (arith, ending_short d, h.bounded, e.blocks)

-- ---- the output

-- a call's start s, and the message x with the generator's ending put into the sponge u after it, which became v: the call for k bytes
module _ (s : Started) (x : List ℕ) (u v : Sponge) (r k : ℕ) (name customisation key : List ℕ) where
  abbrev Absorbed : Drng → Type 0
  Absorbed d = MessageAbsorbed s.suffix u (x ++ ending_of d) v r

  pub generator_output : (d : Drng) → StartedBy (call_start d name customisation key) s → start_refusal (call_start d name customisation key) ≡ 0
      → state_of u ≡ running s.lanes 0 → Absorbed d → (n : ℕ)
      → squeezed n (state_of v) ≡ sponge (fed (extendable_call (call_start d name customisation key) x k)) n
  generator_output Cshake h ok begins e = message_output (cshake256 x k name key) s h ok _ u v r refl begins e
  generator_output Kmac h ok begins e = message_output (kmacxof256 key x k customisation) s h ok _ u v r refl begins e

  pub generator_runs : (d : Drng) → StartedBy (call_start d name customisation key) s → start_refusal (call_start d name customisation key) ≡ 0
      → state_of u ≡ running s.lanes 0 → Absorbed d
      → s.blocks + r + output_runs k ≡ runs (extendable_call (call_start d name customisation key) x k)
  generator_runs Cshake h ok begins e = message_runs (cshake256 x k name key) s h ok _ u v r refl begins e
  generator_runs Kmac h ok begins e = message_runs (kmacxof256 key x k customisation) s h ok _ u v r refl begins e

-- a key squeezed, and then n bytes: the two parts of one output
module _ (u : Running) (n : ℕ) (output : List ℕ) (e : squeezed (key_bytes + n) u ≡ output) where
  pub key_part : squeezed key_bytes u ≡ take key_bytes output
  key_part = sym (squeezed_take key_bytes n u) ∙ ap (take key_bytes) e

  pub stream_part : squeezed n (after key_bytes u) ≡ drop key_bytes output
  stream_part = sym (squeezed_drop key_bytes n u) ∙ ap (drop key_bytes) e
