-- Demand 3, whole: which calls and which seedings are fed alike (docs/RULES.md, 'Fed alike'). proofs/Demand3.antt proves it.
use Rattle.std.specs.Prelude.{◌≡◌, ◌↔◌, length}
use Rattle.calls.specs.Call.{KMAC256, Call, Accepted}
use Rattle.calls.specs.FedAlike.{FedAlike, FedAlikeExactly}
use Rattle.seeding.specs.declared.Drng.{Drng}
use Rattle.seeding.specs.declared.Drng.TheVariants.{Cshake, Kmac}
use Rattle.seeding.specs.Seeding.{Seeding, key_bytes, seed_call, SeedingAccepted}

pub record Demand3 : Type 0 where
  -- two accepted calls, of one function or of two, are fed alike exactly when the arguments that count are equal
  pub calls : FedAlikeExactly
  -- two accepted seedings, of one generator or of two, are fed alike exactly when they are of the same generator and had equal old key, seed and
  -- personalisation
  pub seedings : (d e : Drng) (s t : Seeding) → SeedingAccepted s → SeedingAccepted t → FedAlike (seed_call d s) (seed_call e t) ↔ ((d ≡ e) × (s ≡ t))
  -- so a seeding of one generator and one of the other never are, accepted or not
  pub generators : (s t : Seeding) → FedAlike (seed_call Cshake s) (seed_call Kmac t) → ⊥
  -- the call of an accepted seeding is an accepted call, of cSHAKE256 or of KMACXOF256, of which the first claim holds
  pub seeding_calls : (d : Drng) (s : Seeding) → length s.key ≡ key_bytes → SeedingAccepted s → Accepted (seed_call d s)
  -- so a seeding of the KMAC generator and an accepted KMAC256 call never are fed alike; it holds of every seeding, accepted or not
  pub kmac_seedings : (s : Seeding) (c : Call KMAC256) → Accepted c → FedAlike (seed_call Kmac s) c → ⊥
