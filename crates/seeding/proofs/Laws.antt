-- Laws on seedings: what their fed bytes fix, and that the call of an accepted one is accepted.
use Rattle.std.specs.Prelude.{◌≡◌, refl, false, List, ℕ, ◌≤◌, ltb, length}
use Rattle.std.proofs.Common.{sym, ap, arith, ltb-false, le-ltb, length-append}
use Rattle.answers.specs.Laws.{test_passed}
use Rattle.encode.specs.Encode.{KMAC}
use Rattle.encode.specs.Laws.Codes.{length_suffixed-free}
use Rattle.calls.specs.Limits.{max_personalisation, max_seed, max_message, max_key, max_name, max_customisation}
use Rattle.calls.specs.Call.{input, Accepted, fed}
use Rattle.calls.specs.Start.{is_reserved, start_refusal}
use Rattle.calls.specs.Laws.Input.{fed_bytes-fixes}
use Rattle.calls.proofs.Laws.Fed.{kmac_message_fixes}
use Rattle.calls.specs.Laws.Refusal.{extendable_accepted}
use Rattle.seeding.specs.declared.Drng.{Drng}
use Rattle.seeding.specs.declared.Drng.TheVariants.{Cshake, Kmac}
use Rattle.seeding.specs.Seeding.{Seeding, key_bytes, cshake_seed_name, kmac_seed_customisation, call_start, seed_start, seed_message, seed_call, seed_lengths_refusal, SeedingAccepted}

-- the message fixes the seed and the personalisation
message_fixes : (s t : Seeding) → seed_message s ≡ seed_message t → (s.seed ≡ t.seed) × (s.personalisation ≡ t.personalisation)
message_fixes s t e =
    let m = length_suffixed-free s.personalisation t.personalisation s.seed t.seed e in
    (m.1, m.0)

-- the names that the two generators' inputs begin with
names_differ : cshake_seed_name ≡ KMAC → ⊥
names_differ e = let n : ◌≡◌ {A = ℕ} 16 4 = ap length e in omega arith

-- the input fixes the generator, by its name, and the seeding
input_fixes : (d e : Drng) (s t : Seeding) → input (seed_call d s) ≡ input (seed_call e t) → (d ≡ e) × (s ≡ t)
input_fixes Cshake Cshake s t i =
    let m = message_fixes s t (λ k. (i k).message) in
    (refl, λ k. record { key = (i k).customisation; seed = m.0 k; personalisation = m.1 k })
input_fixes Kmac Kmac s t i =
    let r = kmac_message_fixes s.key (seed_message s) t.key (seed_message t) 0 0 (λ k. (i k).message) in
    let m = message_fixes s t r.1 in
    (refl, λ k. record { key = r.0 k; seed = m.0 k; personalisation = m.1 k })
input_fixes Cshake Kmac s t i = absurd (names_differ (λ k. (i k).name))
input_fixes Kmac Cshake s t i = absurd (names_differ (sym (λ k. (i k).name)))

-- what two seedings are fed fixes their generator, key, seed and personalisation; no limit is needed
pub seeding_fixes : (d e : Drng) (s t : Seeding) → fed (seed_call d s) ≡ fed (seed_call e t) → (d ≡ e) × (s ≡ t)
unfolding fed
seeding_fixes d e s t q = input_fixes d e s t (fed_bytes-fixes (input (seed_call d s)) (input (seed_call e t)) q)

-- an accepted seeding keeps the limits
pub seed_limits : (seed personalisation : ℕ) → seed_lengths_refusal seed personalisation ≡ 0 → (personalisation ≤ max_personalisation) × (seed ≤ max_seed)
unfolding seed_lengths_refusal
seed_limits seed personalisation e =
    let p = test_passed (ltb max_personalisation personalisation) 2 _ e in
    let s = test_passed (ltb max_seed seed) 4 _ p.1 in
    (ltb-false max_personalisation personalisation p.0, ltb-false max_seed seed s.0)

-- a generator's call starts from a key of its length
pub call_start-accepted : (d : Drng) (name customisation key : List ℕ) → length name ≤ max_name → is_reserved name ≡ false
    → length customisation ≤ max_customisation → length key ≡ key_bytes → start_refusal (call_start d name customisation key) ≡ 0
unfolding start_refusal
call_start-accepted Cshake name customisation key n other c size =
    rw (le-ltb max_name (length name) n, le-ltb max_customisation (length key) (omega (arith, size)), other)
call_start-accepted Kmac name customisation key n other c size =
    rw (le-ltb max_key (length key) (omega (arith, size)), le-ltb max_customisation (length customisation) c)

pub seed_call-accepted : (d : Drng) (s : Seeding) → length s.key ≡ key_bytes → SeedingAccepted s → Accepted (seed_call d s)
seed_call-accepted d s size h =
    let limits = seed_limits (length s.seed) (length s.personalisation) h in
    let m : length (seed_message s) ≤ max_message = simp length-append (omega arith) in
    let ok = call_start-accepted d cshake_seed_name kmac_seed_customisation s.key (omega arith) refl (omega arith) size in
    extendable_accepted (seed_start d s.key) (seed_message s) key_bytes ok m (omega arith)
