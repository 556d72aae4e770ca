-- The end of the input: the two bytes of right_encode(0) are put in or not, and then the sponge is finished.
use mathlib.Core.Path.{◌≡◌, ap, ◌∙◌}
use mathlib.Core.Bool.{Bool, true, false}
use mathlib.Core.List.{[], ◌∷◌}
use Prim.Native.Nat.{ℕ, ◌%◌, ◌<◌}
use native.Mathlib.Nat.{mod-eq_of_lt}
use Rattle.encode.specs.Padding.{rate}
use Rattle.encode.proofs.Facts.{facts}
use Rattle.sponge.specs.declared.Sponge.{Sponge}
use Rattle.sponge.specs.Running.{Running, running, state_of, absorbed, finished}
use Rattle.session_state.specs.Session.{input_end}

module _ (suffix : ℕ) (k : Bool) (last : Sponge) (r : Running) (done : r ≡ finished suffix (running last.lanes (last.position % rate))) where
  pub ended_kmac : (from : Running) (put : Sponge) → k ≡ true → last ≡ put → state_of put ≡ absorbed from (0x00 ∷ 0x01 ∷ []) → put.position < rate
      → r ≡ finished suffix (absorbed from (input_end k))
  unfolding input_end
  ended_kmac from put t e f below =
      rw (t, facts.p2)
      (done
      ∙ ap (λ (s : Sponge). finished suffix (running s.lanes (s.position % rate))) e
      ∙ ap (finished suffix) (ap (running put.lanes) (mod-eq_of_lt below) ∙ f))

  pub ended_plain : (before : Sponge) → k ≡ false → last ≡ before → r ≡ finished suffix (absorbed (running before.lanes (before.position % rate)) (input_end k))
  unfolding input_end absorbed
  ended_plain before t e = rw t (done ∙ ap (λ (s : Sponge). finished suffix (running s.lanes (s.position % rate))) e)
