-- From the checks on the way and what `run` does to what a call answers: the laws are over any call.
use Rattle.std.specs.Prelude.{Result, Ok, Err}
use mathlib.Core.Path.{◌≡◌, refl, sym, ap, subst, ◌∙◌}
use mathlib.Core.List.{List, ◌++◌}
use mathlib.Core.Bool.{Bool, true, false}
use Prim.Native.Nat.{ℕ, zero, suc, ◌+◌, ◌%◌, ◌^◌, ◌≤◌}
use native.Mathlib.Nat.{mod-eq_of_lt}
use native.Mathlib.Omega.{arith}
use lib.ListN.{length}
use lib.Dec.{ltb}
use Rattle.std.specs.Prelude.{cond, eqb}
use Rattle.answers.specs.declared.Outcome.{Outcome}
use Rattle.answers.specs.declared.Refusal.{Refusal}
use Rattle.answers.specs.Done.{if_done, first_number, over, answered, outcome_of, outcome_from}
use Rattle.answers.specs.Laws.{first_number-passed, over_passed, answered_ok, first_refused, refused_number}
use Rattle.calls.specs.Limits.{max_key, max_name, max_customisation, max_message, max_output}
use Rattle.calls.specs.Start.{Start, named, keyed, is_reserved, start_refusal}
use Rattle.calls.specs.Call.{
  Function,
  cSHAKE256,
  KMAC256,
  KMACXOF256,
  Call,
  start_of,
  message_of,
  output_bytes,
  output_refusal,
  call_refusal,
  refusal,
  fed,
  ending,
}
use Rattle.calls.specs.Count.{runs, reported_runs}
use Rattle.calls.specs.Laws.Refusal.{message_accepted, output_accepted}
use Rattle.calls.proofs.Laws.Runs.{length_ending, runs_by_lengths}
use Rattle.sponge.specs.Sponge.{sponge}
use Rattle.start.specs.declared.Started.{Started}
use Rattle.start.specs.Started.{Starts, StartedBy}
use Rattle.start.proofs.Calls.{start_accepted, start_refused, start_blocks_lem, call_output}
use Rattle.one_shot.specs.Run.{runs_from, run_output, run_outcome, run_written}
use Rattle.hash.specs.Outcome.{outcome, written}

-- ---- numbers

over_small : (n most k : ℕ) → over n most k ≤ k
over_small n most k = go (ltb most n)
  where
    go : (t : Bool) → cond t k 0 ≤ k
    go true = omega arith
    go false = omega arith

first_small : (k l : ℕ) → k ≤ 10 → l ≤ 10 → first_number k l ≤ 10
first_small zero l hk hl = hl
first_small (suc k) l hk hl = hk

zero_length_small : (n : ℕ) → cond (eqb n 0) 6 0 ≤ 10
zero_length_small n = go (eqb n 0)
  where
    go : (t : Bool) → cond t 6 0 ≤ 10
    go true = omega arith
    go false = omega arith

output_small : (f : Function) (n : ℕ) → output_refusal f n ≤ 10
output_small cSHAKE256 n = omega (arith, over_small n max_output 6)
output_small KMAC256 n = first_small (over n max_output 6) _ (omega (arith, over_small n max_output 6)) (zero_length_small n)
output_small KMACXOF256 n = omega (arith, over_small n max_output 6)

reserved_small : (t : Bool) → cond t 4 0 ≤ 10
reserved_small true = omega arith
reserved_small false = omega arith

start_small : (t : Start) → start_refusal t ≤ 10
unfolding start_refusal
start_small (named N S) =
    first_small (over (length N) max_name 3) _ (omega (arith, over_small (length N) max_name 3))
    (first_small (over (length S) max_customisation 3) _ (omega (arith, over_small (length S) max_customisation 3)) (reserved_small (is_reserved N)))
start_small (keyed K S) =
    first_small (over (length K) max_key 2) _ (omega (arith, over_small (length K) max_key 2)) (omega (arith, over_small (length S) max_customisation 3))

-- a number of the table
refusal_small : {f : Function} (c : Call f) → refusal c ≤ 10
unfolding refusal
refusal_small {f} c =
    first_small (start_refusal (start_of c)) _ (start_small (start_of c))
    (first_small (over (length (message_of c)) max_message 5) _ (omega (arith, over_small (length (message_of c)) max_message 5))
    (output_small f (output_bytes c)))

pub output_fits : (f : Function) (n : ℕ) → output_refusal f n ≡ 0 → n ≤ max_output
output_fits cSHAKE256 n h = over_passed n max_output 5 h
output_fits KMAC256 n h = over_passed n max_output 5 (first_number-passed (over n max_output 6) _ h).0
output_fits KMACXOF256 n h = over_passed n max_output 5 h

-- ---- what a refusal and an acceptance come to, by the number

refused_outcome : (k r : ℕ) (e : Refusal) → k ≤ 10 → answered k (tt {0}) ≡ Err e → outcome_from (Err e) ≡ outcome_of k r
refused_outcome zero r e most h = absurd cc
refused_outcome (suc k) r e most h =
    let numbered : ℕ → Outcome = λ n. record { number = n; runs = 0 } in
    ap numbered (refused_number (suc k) (tt {0}) e most h).0

unwritten : (k : ℕ) (l before : List ℕ) (e : Refusal) → answered k (tt {0}) ≡ Err e → before ≡ if_done k l before
unwritten zero l before e h = absurd cc
unwritten (suc k) l before e h = refl

-- ---- what a call answers, where `before` is lent for the output

module _ {f : Function} (c : Call f) (before : List ℕ) where
  abbrev Answered : Result ℕ Refusal → List ℕ → Type 0
  Answered r out = (outcome_from r ≡ outcome c) × (out ≡ written c before)

  -- the number of the lengths, once the start is accepted
  abbrev lengths_refusal : ℕ
  lengths_refusal = call_refusal f 0 (length (message_of c)) (output_bytes c)

  refused : (r : Result ℕ Refusal) (e : Refusal) → answered (refusal c) (tt {0}) ≡ Err e → r ≡ Err e → Answered r before
  unfolding outcome reported_runs written
  refused r e h is = rw is (refused_outcome (refusal c) (runs c) e (refusal_small c) h, unwritten (refusal c) _ before e h)

  module _ (s : Result Started Refusal) (h : Starts (start_of c) s) where
    pub start_refuses : (r : Result ℕ Refusal) (e : Refusal) → s ≡ Err e → r ≡ Err e → Answered r before
    unfolding refusal
    start_refuses r e was is =
        let t : Starts (start_of c) (Err e) = subst (Starts (start_of c)) was h in
        refused r e
        (first_refused (start_refusal (start_of c)) (call_refusal f 0 (length (message_of c)) (output_bytes c)) (tt {0}) (tt {0}) e
        (start_refused (start_of c) e t (tt {0})))
        is

    module _ (v : Started) (was : s ≡ Ok v) where
      accepted : (start_refusal (start_of c) ≡ 0) × StartedBy (start_of c) v
      accepted = start_accepted (start_of c) v (subst (Starts (start_of c)) was h)

      by_lengths : refusal c ≡ lengths_refusal
      unfolding refusal
      by_lengths = ap (λ (k : ℕ). call_refusal f k (length (message_of c)) (output_bytes c)) accepted.0

      pub lengths_refuse : (r : Result ℕ Refusal) (e : Refusal) → answered lengths_refusal (tt {0}) ≡ Err e → r ≡ Err e → Answered r before
      lengths_refuse r e refuses is = refused r e (ap (λ (k : ℕ). answered k (tt {0})) by_lengths ∙ refuses) is

      module _ (passes : answered lengths_refusal (tt {0}) ≡ Ok (tt {0})) where
        ok : refusal c ≡ 0
        ok = by_lengths ∙ (answered_ok lengths_refusal (tt {0}) (tt {0}) passes).0

        pub output_limit : output_bytes c ≤ max_output
        output_limit = output_fits f (output_bytes c) (output_accepted c ok)

        -- e is what `run` was handed as the ending
        module _ (e : List ℕ) (is : e ≡ ending f (output_bytes c)) (short : length e ≤ 9) where
          counted : runs_from v.blocks (length (message_of c)) (length e) (output_bytes c) ≡ runs c
          counted =
              let n : length e ≡ length (ending f (output_bytes c)) = ap length is in
              let m = message_accepted c ok in
              let o = output_limit in
              let b = accepted.1.bounded in
              let input : (length (message_of c) + length e) % 2 ^ 64 ≡ length (message_of c) + length e = mod-eq_of_lt (omega arith) in
              rw input
              (mod-eq_of_lt (omega arith)
              ∙ omega (arith, runs_by_lengths c, start_blocks_lem (start_of c) v accepted.1 accepted.0, length_ending f (output_bytes c)))

          output_is : length before ≡ output_bytes c → run_output v (message_of c) e (length before) ≡ sponge (fed c) (output_bytes c)
          unfolding run_output
          output_is n =
              call_output c v (message_of c ++ e) (length before) accepted.1 accepted.0 (ap (λ (l : List ℕ). message_of c ++ l) is)
              ∙ ap (sponge (fed c)) n

          -- what is done, run to its end
          pub runs_call : (r : ℕ) (out : List ℕ) → length before ≡ output_bytes c
              → (r ≡ runs_from v.blocks (length (message_of c)) (length e) (length before)) × (out ≡ run_output v (message_of c) e (length before))
              → Answered (Ok r) out
          unfolding outcome reported_runs written
          runs_call r out n ran =
              let count : r ≡ runs c = ran.0 ∙ ap (λ (k : ℕ). runs_from v.blocks (length (message_of c)) (length e) k) n ∙ counted in (
                ap (outcome_of 0) count ∙ sym (ap (λ (k : ℕ). outcome_of k (runs c)) ok),
                ran.1 ∙ output_is n ∙ sym (ap (λ (k : ℕ). if_done k (sponge (fed c) (output_bytes c)) before) ok),
              )

      -- from what `run` ensures, by what the lengths were checked to be. Its ending is that of the function where the output has an allowed length
      pub run_answers : (checked : Result Unit Refusal) (e : List ℕ) (r : Result ℕ Refusal) (out : List ℕ)
          → checked ≡ answered lengths_refusal (tt {0})
          → (output_bytes c ≤ max_output → (e ≡ ending f (output_bytes c)) × (length e ≤ 9))
          → length before ≡ output_bytes c
          → (r ≡ run_outcome checked v (message_of c) e (length before)) × (out ≡ run_written checked v (message_of c) e before)
          → Answered r out
      unfolding run_outcome run_written
      run_answers (Ok u) e r out checks ended n ran =
          let passes : answered lengths_refusal (tt {0}) ≡ Ok (tt {0}) = sym checks in
          let ends = ended (output_limit passes) in
          rw ran.0 (runs_call passes e ends.0 ends.1 _ out n (refl, ran.1))
      run_answers (Err x) e r out checks ended n ran = rw ran.1 (lengths_refuse r x (sym checks) ran.0)
