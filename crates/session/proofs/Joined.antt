-- The joined_bytes rule: the one sponge that an accepted start's session gives from (`Given.gives_joined`) is that of the one-shot call.
use mathlib.Core.Path.{◌≡◌, refl, sym, ap, ◌∙◌}
use mathlib.Core.List.{List, ◌++◌, append_assoc}
use Prim.Native.Nat.{ℕ, ◌≤◌}
use native.Mathlib.Nat.{zero-add}
use native.Mathlib.Omega.{arith}
use borrow.Author.Tests.{le-ltb}
use lib.ListN.{length, replicate}
use Rattle.encode.specs.Padding.{padded}
use Rattle.calls.specs.Limits.{max_message, max_output}
use Rattle.calls.specs.Start.{Start, named, keyed, start_refusal, start_prefix, start_suffix}
use Rattle.calls.specs.Call.{refusal, Accepted, fed, ending, extendable, extendable_call}
use Rattle.calls.proofs.Laws.Fed.{extendable_parts, start_prefix-blocks}
use Rattle.sponge.specs.Sponge.{sponge}
use Rattle.sponge.specs.Running.{Running, running, fresh, absorbed, finished, squeezed}
use Rattle.sponge.proofs.Absorbing.{absorbed_append}
use Rattle.sponge.proofs.Whole.{absorbed_position, squeezed_whole, sponge_prefix}
use Rattle.start.specs.Started.{after_prefix, started}
use Rattle.session_state.specs.declared.Phase.TheVariants.{Taking}
use Rattle.session_state.specs.declared.Session.{Session}
use Rattle.session_state.specs.Session.{session_answer, initial, started_session, is_kmac, begun, input_end}
use Rattle.session.specs.History.{session_after, accepted_pieces, output}
use Rattle.session.specs.Joined.{JoinedBytesRule}
use Rattle.session.proofs.EmptyPiece.{Regular, stays_regular, empty_piece_lem}
use Rattle.session.proofs.Totals.{takes_within, gives_within}
use Rattle.session.proofs.Given.{source_after, gives_joined}
use Rattle.session.proofs.Numbers.{numbers_table}

begun_accepted : (s : Start) → start_refusal s ≡ 0 → begun s ≡ session_answer 0 (initial (after_prefix s) (is_kmac s))
unfolding begun started_session started
begun_accepted s h = rw h

initial_regular : (s : Start) → Regular (initial (after_prefix s) (is_kmac s))
initial_regular s p e = let i : 0 ≡ p = cc in (omega arith, omega arith)

-- ---- the one-shot call

call_accepted : (s : Start) (X : List ℕ) (n : ℕ) → start_refusal s ≡ 0 → length X ≤ max_message → n ≤ max_output → Accepted (extendable_call s X n)
unfolding refusal
call_accepted (named N S) X n h x y = rw (h, le-ltb max_message (length X) x, le-ltb max_output n y)
call_accepted (keyed K S) X n h x y = rw (h, le-ltb max_message (length X) x, le-ltb max_output n y)

input_end-ending : (s : Start) → input_end (is_kmac s) ≡ ending (extendable s) 0
unfolding input_end
input_end-ending (named N S) = refl
input_end-ending (keyed K S) = refl

-- the prefix is whole blocks
prefix_absorbed : (s : Start) → running (absorbed fresh (start_prefix s)).lanes 0 ≡ absorbed fresh (start_prefix s)
prefix_absorbed s =
    let u : Running = absorbed fresh (start_prefix s) in
    let position : u.position ≡ 0
    = absorbed_position (start_prefix s) (replicate 25 0) 0 (omega arith) ∙ rw zero-add (start_prefix-blocks s) in
    ap (running u.lanes) (sym position)

-- once the session has taken X, it gives the one-shot answer
call_given : (s : Start) (X : List ℕ) (n d : ℕ)
    → squeezed n (source_after (Taking 0) (initial (after_prefix s) (is_kmac s)) X) ≡ sponge (fed (extendable_call s X d)) n
unfolding source_after
call_given s X n d =
    let l : List ℕ = X ++ input_end (is_kmac s) in
    let input : absorbed (running (absorbed fresh (start_prefix s)).lanes 0) l ≡ absorbed fresh (start_prefix s ++ l)
    = ap (λ (u : Running). absorbed u l) (prefix_absorbed s) ∙ sym (absorbed_append fresh (start_prefix s) l) in
    let fed_input : padded (start_suffix s) (start_prefix s ++ l) ≡ fed (extendable_call s X d)
    = rw input_end-ending (sym (rw append_assoc at (extendable_parts s X d))) in
    ap (λ (u : Running). squeezed n (finished (start_suffix s) u)) input
    ∙ squeezed_whole (start_suffix s) (start_prefix s ++ l) n
    ∙ ap (λ (m : List ℕ). sponge m n) fed_input

-- ---- the rule

pub joined_bytes : JoinedBytesRule
joined_bytes s h cs =
    let b : Session = initial (after_prefix s) (is_kmac s) in
    let e : begun s ≡ session_answer 0 b = begun_accepted s h in
    let X : List ℕ = accepted_pieces b cs in
    let n : ℕ = length (output b cs) in
    record {
      started = rw e;
      numbered = rw e (numbers_table cs b.lanes (Taking 0) 0 0 b.suffix b.kmac);
      empty_piece = rw e (empty_piece_lem (session_after b cs) (stays_regular cs b (initial_regular s)));
      acceptable = rw e (call_accepted s X n h (omega (arith, takes_within cs b (omega arith))) (omega (arith, gives_within cs b (omega arith))));
      joined = λ d f. rw e (gives_joined cs b ∙ call_given s X n d ∙ sym (sponge_prefix (fed (extendable_call s X d)) n d (rw e at f)));
    }
