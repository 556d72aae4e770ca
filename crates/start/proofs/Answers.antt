-- From the refusal and the sponge at the end to what a start answers.
use mathlib.Core.Path.{◌≡◌, sym, ap, ◌∙◌}
use mathlib.Core.Bool.{true, false}
use mathlib.Core.List.{List, ◌++◌}
use Prim.Native.Nat.{ℕ, ◌+◌, ◌/◌, ◌≤◌}
use native.Mathlib.Omega.{arith}
use borrow.Author.Tests.{ne_eqb, eq-eqb}
use lib.ListN.{length, replicate, length-append}
use Rattle.std.specs.Prelude.{Result, Ok, Err}
use Rattle.answers.specs.declared.Refusal.{Refusal}
use Rattle.answers.specs.Done.{over, answered}
use Rattle.answers.specs.Laws.{first_number-passed, over_passed, answered_ok, answered_err}
use Rattle.calls.specs.Limits.{max_key, max_name, max_customisation}
use Rattle.encode.specs.Padding.{rate}
use Rattle.encode.specs.Encode.{encode_string, bytepad, KMAC}
use Rattle.encode.proofs.Laws.Lengths.{bytepad_blocks}
use Rattle.calls.specs.Input.{is_shake}
use Rattle.calls.specs.Start.{Start, named, keyed, start_refusal, start_prefix, start_suffix}
use Rattle.calls.specs.Laws.Input.{is_shake-lengths}
use Rattle.sponge.specs.declared.Sponge.{Sponge}
use Rattle.sponge.specs.Running.{Running, running, fresh, absorbed}
use Rattle.sponge.proofs.Absorbing.{absorbed_append}
use Rattle.start.specs.declared.Started.{Started}
use Rattle.start.specs.Limits.{longest_string}
use Rattle.start.specs.Started.{after_prefix, started, most_blocks, Starts}
use Rattle.start.specs.Prefix.{Padded}

pub refused_starts : (s : Start) (e : Refusal) (r : Result Started Refusal) → answered (start_refusal s) (tt {0}) ≡ Err e → r ≡ Err e → Starts s r
unfolding started
refused_starts s e r h is = rw is (record { is = sym (answered_err (start_refusal s) tt (after_prefix s) e h); bounded = tt })

-- ---- a start that passes its check

-- its number is 0
abbrev Passed : Start → Type 0
Passed s = answered (start_refusal s) (tt {0}) ≡ Ok (tt {0})

passed : (s : Start) → Passed s → start_refusal s ≡ 0
passed s e = (answered_ok (start_refusal s) (tt {0}) (tt {0}) e).0

-- so it keeps the limits
pub name_fits : (N S : List ℕ) → Passed (named N S) → length N ≤ longest_string
unfolding start_refusal
name_fits N S e = over_passed (length N) max_name 2 (first_number-passed (over (length N) max_name 3) _ (passed (named N S) e)).0

pub customisation_fits : (N S : List ℕ) → Passed (named N S) → length S ≤ longest_string
unfolding start_refusal
customisation_fits N S e =
    let n = first_number-passed (over (length N) max_name 3) _ (passed (named N S) e) in
    over_passed (length S) max_customisation 2 (first_number-passed (over (length S) max_customisation 3) _ n.1).0

pub key_fits : (K S : List ℕ) → Passed (keyed K S) → length K ≤ longest_string
unfolding start_refusal
key_fits K S e = over_passed (length K) max_key 1 (first_number-passed (over (length K) max_key 2) _ (passed (keyed K S) e)).0

pub keyed_customisation_fits : (K S : List ℕ) → Passed (keyed K S) → length S ≤ longest_string
unfolding start_refusal
keyed_customisation_fits K S e =
    over_passed (length S) max_customisation 2 (first_number-passed (over (length K) max_key 2) _ (passed (keyed K S) e)).1

accepted_starts : (s : Start) (v : Started) → Passed s → v ≡ after_prefix s → v.blocks ≤ most_blocks → Starts s (Ok v)
unfolding started
accepted_starts s v e is bounded =
    record { is = ap (λ (u : Started). Ok u) is ∙ sym (ap (λ (n : ℕ). answered n (after_prefix s)) (passed s e)); bounded = bounded }

abbrev answer : List ℕ → ℕ → ℕ → Started
answer lanes suffix blocks = record { lanes = lanes; suffix = suffix; blocks = blocks }

-- without a name and a customisation nothing is put in
pub shake_starts : (N S : List ℕ) → Passed (named N S) → length N + length S ≡ 0 → Starts (named N S) (Ok (answer (replicate 25 0) 0x1f 0))
unfolding start_prefix start_suffix absorbed
shake_starts N S e none =
    let shake : is_shake N S ≡ true = is_shake-lengths N S ∙ eq-eqb (length N + length S) 0 none in
    accepted_starts (named N S) (answer (replicate 25 0) 0x1f 0) e (rw shake) (omega arith)

pub named_starts : (N S : List ℕ) (s t : Sponge) (k : ℕ) → running s.lanes 0 ≡ fresh → Passed (named N S) → (length N + length S ≡ 0 → ⊥)
    → Padded (encode_string N ++ encode_string S) s t k → Starts (named N S) (Ok (answer t.lanes 0x04 k))
unfolding start_prefix start_suffix
named_starts N S s t k new e some p =
    let named_one : is_shake N S ≡ false = is_shake-lengths N S ∙ ne_eqb (length N + length S) 0 some in
    let x : List ℕ = bytepad (encode_string N ++ encode_string S) rate in
    let is : running t.lanes t.position ≡ absorbed fresh x = p.is ∙ ap (λ (u : Running). absorbed u x) new in
    accepted_starts (named N S) (answer t.lanes 0x04 k) e
    (rw named_one (λ i. answer (is i).lanes 0x04 (p.blocks i)))
    (omega (arith, p.bounded))

pub keyed_starts : (K S : List ℕ) (s t u : Sponge) (k l : ℕ) → running s.lanes 0 ≡ fresh → Passed (keyed K S)
    → Padded (encode_string KMAC ++ encode_string S) s t k → Padded (encode_string K) t u l → Starts (keyed K S) (Ok (answer u.lanes 0x04 (k + l)))
unfolding start_prefix start_suffix
keyed_starts K S s t u k l new e p q =
    let x : List ℕ = bytepad (encode_string KMAC ++ encode_string S) rate in
    let y : List ℕ = bytepad (encode_string K) rate in
    let is : running u.lanes u.position ≡ absorbed fresh (x ++ y)
    = q.is
    ∙ ap (λ (r : Running). absorbed r y) (ap (running t.lanes) (sym p.begins) ∙ p.is ∙ ap (λ (r : Running). absorbed r x) new)
    ∙ sym (absorbed_append fresh x y) in
    let n : k + l ≡ length (x ++ y) / rate
    = omega (arith, length-append x y, bytepad_blocks (encode_string KMAC ++ encode_string S), bytepad_blocks (encode_string K), p.blocks, q.blocks) in
    accepted_starts (keyed K S) (answer u.lanes 0x04 (k + l)) e (λ i. answer (is i).lanes 0x04 (n i)) (omega (arith, p.bounded, q.bounded))

pub ruleset for_named = (name_fits, customisation_fits, shake_starts)

pub ruleset for_keyed = (key_fits, keyed_customisation_fits)
