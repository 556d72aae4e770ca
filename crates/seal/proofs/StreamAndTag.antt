-- From the sponge's runs of the two calls to the construction's key stream and tag, for lengths that are accepted.
use mathlib.Core.Path.{◌≡◌, refl, sym, ap, ◌∙◌}
use mathlib.Core.List.{List, [], ◌++◌}
use Prim.Native.Nat.{ℕ, ◌+◌, ◌≤◌}
use native.Mathlib.Omega.{arith}
use mir.Syntax.{w64}
use mir.Val.{Fits}
use borrow.Author.Tests.{le-ltb}
use lib.ListN.{length, take, drop, length-append}
use Rattle.encode.specs.Digits.{width_in}
use Rattle.encode.specs.Encode.{big_endian, right_encode}
use Rattle.calls.specs.Limits.{max_key, max_customisation, max_message}
use Rattle.calls.specs.Start.{keyed, start_refusal}
use Rattle.calls.specs.Call.{KMACXOF256, kmacxof256, fed, ending}
use Rattle.calls.specs.Count.{runs}
use Rattle.calls.proofs.Laws.Runs.{runs_by_lengths}
use Rattle.sponge.specs.Sponge.{sponge}
use Rattle.sponge.specs.Running.{Running, state_of, squeezed}
use Rattle.sponge.proofs.Whole.{squeezed_take, squeezed_drop}
use Rattle.start.specs.Started.{start_state, most_blocks, StartedBy}
use Rattle.start.proofs.Calls.{start_blocks_lem, call_output}
use Rattle.aead.specs.Limits.{authentication_key_length, longest_tag}
use Rattle.seal_calls.specs.declared.Stream.{Stream}
use Rattle.seal_calls.specs.SealCalls.{zero_code, xof_running, xof_runs, Begins, TagMade}
use Rattle.seal.specs.Kmac.{kmac_aead}

-- more permutations than inputs within the limits take: two counts can be added up
abbrev pub runs_bound : ℕ
runs_bound = 2000000

pub counts_fit : (r s : ℕ) → r ≤ runs_bound → s ≤ runs_bound → Fits w64 (r + s)
counts_fit r s hr hs = omega arith

-- the key stream for a text of n bytes: its authentication key, and what the sponge gives next
pub record Streams (key iv : List ℕ) (n : ℕ) (r : Stream) : Type 0 where
  pub authentication : r.authentication ≡ take authentication_key_length (kmac_aead.key_stream key iv (authentication_key_length + n))
  pub text : squeezed n (state_of r.sponge)
      ≡ drop authentication_key_length (kmac_aead.key_stream key iv (authentication_key_length + n))
  pub runs : r.runs ≡ kmac_aead.stream_runs key iv (authentication_key_length + n)
  pub bounded : r.runs ≤ runs_bound

-- the tag of n bytes over a ciphertext and a label, in r permutations
pub record Tags (authentication ciphertext label tag : List ℕ) (n r : ℕ) : Type 0 where
  pub is : tag ≡ kmac_aead.tag authentication ciphertext label n
  pub runs : r ≡ kmac_aead.tag_runs authentication ciphertext label n
  pub bounded : r ≤ runs_bound

keyed_accepted : (K S : List ℕ) → length K ≤ max_key → length S ≤ max_customisation → start_refusal (keyed K S) ≡ 0
unfolding start_refusal
keyed_accepted K S hk hs = rw (le-ltb _ _ hk, le-ltb _ _ hs)

ended : (n : ℕ) → zero_code ≡ ending KMACXOF256 n
unfolding right_encode big_endian width_in
ended n = refl

-- ---- an accepted call

module _ (K S x : List ℕ) (ok : start_refusal (keyed K S) ≡ 0) (short : (start_state (keyed K S)).blocks ≤ most_blocks) where
  own : StartedBy (keyed K S) (start_state (keyed K S))
  own = record { is = refl; bounded = short }

  xof_output : (n : ℕ) → squeezed n (xof_running K S x) ≡ sponge (fed (kmacxof256 K x n S)) n
  unfolding xof_running
  xof_output n =
      call_output (kmacxof256 K x n S) (start_state (keyed K S)) (x ++ zero_code) n own ok (ap (λ (l : List ℕ). x ++ l) (ended n))

  xof_counted : (n : ℕ) → xof_runs K S x n ≡ runs (kmacxof256 K x n S)
  unfolding xof_runs
  xof_counted n =
      omega (arith, runs_by_lengths (kmacxof256 K x n S), start_blocks_lem (keyed K S) (start_state (keyed K S)) own ok, length-append x zero_code)

  xof_bounded : (n : ℕ) → length x ≤ max_message → n ≤ authentication_key_length + max_message → xof_runs K S x n ≤ runs_bound
  unfolding xof_runs
  xof_bounded n hx hn = omega (arith, length-append x zero_code)

-- ---- the key stream

pub streams : (key iv : List ℕ) (n : ℕ) (r : Stream) → Begins key iv n r → length key ≤ max_key → length iv ≤ max_customisation → n ≤ max_message
    → Streams key iv n r
streams key iv n r b hk hs hn =
    let ok = keyed_accepted key iv hk hs in
    let u : Running = xof_running key iv [] in
    let all : ℕ = authentication_key_length + n in
    let whole : kmac_aead.key_stream key iv all ≡ squeezed all u = sym (xof_output key iv [] ok b.bounded all) in
    record {
      authentication =
          ap (λ (s : Stream). s.authentication) b.is
          ∙ sym (ap (take authentication_key_length) whole ∙ squeezed_take authentication_key_length n u);
      text =
          ap (λ (s : Stream). squeezed n (state_of s.sponge)) b.is
          ∙ sym (ap (drop authentication_key_length) whole ∙ squeezed_drop authentication_key_length n u);
      runs = ap (λ (s : Stream). s.runs) b.is ∙ xof_counted key iv [] ok b.bounded all;
      bounded = omega (arith, ap (λ (s : Stream). s.runs) b.is, xof_bounded key iv [] ok b.bounded all (omega arith) (omega arith));
    }

-- ---- the tag

pub tags : (k x l made : List ℕ) (t r : ℕ) → TagMade k x l made t r → length k ≤ max_key → length x + length l ≤ max_message → t ≤ longest_tag
    → Tags k x l made t r
tags k x l made t r g hk hx ht =
    let ok = keyed_accepted k [] hk (omega arith) in
    let short : length (x ++ l) ≤ max_message = simp length-append hx in
    record {
      is = g.is ∙ xof_output k [] (x ++ l) ok g.bounded t;
      runs = g.runs ∙ xof_counted k [] (x ++ l) ok g.bounded t;
      bounded = omega (arith, g.runs, xof_bounded k [] (x ++ l) ok g.bounded t short (omega arith));
    }
