-- From a start to the call that it begins: its refusal, and the output of the whole call once message and ending are put in.
use mathlib.Core.Path.{◌≡◌, sym, ap, ◌∙◌}
use mathlib.Core.List.{List, ◌++◌, append_assoc}
use Prim.Native.Nat.{ℕ}
use native.Mathlib.Omega.{arith}
use lib.ListN.{replicate}
use Rattle.std.specs.Prelude.{Result, Ok, Err}
use Rattle.std.specs.Result.{result_unwrap_or}
use Rattle.answers.specs.declared.Refusal.{Refusal}
use Rattle.answers.specs.Done.{answered}
use Rattle.answers.specs.Laws.{answered_ok, answered_err}
use Rattle.encode.specs.Padding.{padded}
use Rattle.calls.specs.Start.{Start, start_refusal, start_prefix, start_suffix}
use Rattle.calls.specs.Call.{Function, Call, start_of, message_of, output_bytes, fed, ending}
use Rattle.calls.proofs.Laws.Fed.{fed_parts, start_prefix-blocks}
use Rattle.calls.proofs.Laws.Runs.{start_blocks, length_start_prefix}
use Rattle.sponge.specs.Sponge.{sponge}
use Rattle.sponge.specs.Running.{Running, running, fresh, absorbed, finished, squeezed}
use Rattle.sponge.proofs.Absorbing.{absorbed_append}
use Rattle.sponge.proofs.Whole.{absorbed_position, squeezed_whole}
use Rattle.start.specs.declared.Started.{Started}
use Rattle.start.specs.Started.{after_prefix, started, no_start, start_state, Starts, StartedBy}

-- ---- what a start answers

-- an accepted start
pub start_accepted : (t : Start) (v : Started) → Starts t (Ok v) → (start_refusal t ≡ 0) × StartedBy t v
unfolding started start_state
start_accepted t v h =
    let e = answered_ok (start_refusal t) (after_prefix t) v (sym h.is) in
    (e.0, record { is = ap (λ (r : Result Started Refusal). result_unwrap_or r no_start) h.is; bounded = h.bounded })

-- a refused one
pub start_refused : (t : Start) (e : Refusal) → Starts t (Err e) → {A : Type 0} (a : A) → answered (start_refusal t) a ≡ Err e
unfolding started
start_refused t e h a = answered_err (start_refusal t) (after_prefix t) a e (sym h.is)

-- the start of a call that goes on in any case
pub start_or_none : (t : Start) (r : Result Started Refusal) → Starts t r → StartedBy t (result_unwrap_or r no_start)
unfolding start_state
start_or_none t (Ok v) h = record { is = ap (λ (r : Result Started Refusal). result_unwrap_or r no_start) h.is; bounded = h.bounded }
start_or_none t (Err e) h = record { is = ap (λ (r : Result Started Refusal). result_unwrap_or r no_start) h.is; bounded = omega arith }

-- ---- what an accepted start leaves

module _ (t : Start) (s : Started) (h : StartedBy t s) where
  module _ (ok : start_refusal t ≡ 0) where
    start_is : s ≡ after_prefix t
    unfolding started start_state
    start_is = h.is ∙ ap (λ (k : ℕ). result_unwrap_or (answered k (after_prefix t)) no_start) ok

    pub start_suffix_lem : s.suffix ≡ start_suffix t
    start_suffix_lem = ap (λ (u : Started). u.suffix) start_is

    pub start_blocks_lem : s.blocks ≡ start_blocks t
    start_blocks_lem = ap (λ (u : Started). u.blocks) start_is ∙ omega (arith, length_start_prefix t)

    -- the prefix is whole blocks: the sponge stands at position 0
    pub start_lanes : running s.lanes 0 ≡ absorbed fresh (start_prefix t)
    start_lanes =
        let p : (absorbed fresh (start_prefix t)).position ≡ 0
        = absorbed_position (start_prefix t) (replicate 25 0) 0 (omega arith) ∙ omega (arith, start_prefix-blocks t) in
        ap (λ (u : Started). running u.lanes 0) start_is ∙ ap (running (after_prefix t).lanes) (sym p)

-- ---- the output of a call whose message and ending m were put in after its start

pub call_output : {f : Function} (c : Call f) (s : Started) (m : List ℕ) (n : ℕ) → StartedBy (start_of c) s → start_refusal (start_of c) ≡ 0
    → m ≡ message_of c ++ ending f (output_bytes c) → squeezed n (finished s.suffix (absorbed (running s.lanes 0) m)) ≡ sponge (fed c) n
call_output {f} c s m n h ok is =
    let t : Start = start_of c in
    let x : List ℕ = message_of c ++ ending f (output_bytes c) in
    ap (λ (l : List ℕ). squeezed n (finished s.suffix (absorbed (running s.lanes 0) l))) is
    ∙ ap (λ (u : Running). squeezed n (finished s.suffix (absorbed u x))) (start_lanes t s h ok)
    ∙ ap (λ (k : ℕ). squeezed n (finished k (absorbed (absorbed fresh (start_prefix t)) x))) (start_suffix_lem t s h ok)
    ∙ ap (λ (u : Running). squeezed n (finished (start_suffix t) u)) (sym (absorbed_append fresh (start_prefix t) x))
    ∙ squeezed_whole (start_suffix t) (start_prefix t ++ x) n
    ∙ ap (λ (l : List ℕ). sponge (padded (start_suffix t) l) n) (sym (append_assoc (start_prefix t) (message_of c) (ending f (output_bytes c))))
    ∙ ap (λ (l : List ℕ). sponge l n) (sym (fed_parts c))
