-- Of the calls it is the law of `calls`; a seeding's fed bytes fix its generator, key, seed and personalisation. KMAC256 is told from KMACXOF256, of which
-- the KMAC generator is made, as `calls` tells them: by the number that ends the message.
use mathlib.Core.Path.{◌≡◌}
use Prim.Native.Nat.{ℕ}
use native.Mathlib.Omega.{arith}
use Rattle.calls.specs.Call.{KMAC256, KMACXOF256, fed}
use Rattle.calls.proofs.FedAlike.{function_of-xof, function_of-input, alike_function, fed_alike}
use Rattle.seeding.specs.declared.Drng.TheVariants.{Cshake, Kmac}
use Rattle.seeding.specs.Seeding.{key_bytes, kmac_seed_customisation, seed_message, seed_call}
use Rattle.seeding.proofs.Laws.{seeding_fixes, seed_call-accepted}
use Rattle.demand3.specs.Demand3.{Demand3}

generators_differ : Cshake ≡ Kmac → ⊥
generators_differ e = let n : ◌≡◌ {A = ℕ} 0 1 = cc in omega arith

functions_differ : KMACXOF256 ≡ KMAC256 → ⊥
functions_differ e = let n : ◌≡◌ {A = ℕ} 0 1 = cc in omega arith

pub demand3 : Demand3
demand3 =
    record {
      calls = fed_alike;
      seedings =
          λ d e s t _ _.
          (seeding_fixes d e s t, λ same. λ i. fed (seed_call (same.0 i) (same.1 i)));
      generators = λ s t alike. generators_differ (seeding_fixes Cshake Kmac s t alike).0;
      seeding_calls = seed_call-accepted;
      kmac_seedings =
          λ s c accepted alike.
          functions_differ
          (alike_function (seed_call Kmac s) c (function_of-xof s.key (seed_message s) key_bytes kmac_seed_customisation) (function_of-input c accepted) alike);
    }
