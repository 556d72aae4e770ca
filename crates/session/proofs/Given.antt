-- The bytes that any session gives, joined, are those of one sponge (`gives_joined`): a refused call leaves the session as it was, a piece is absorbed after
-- those before it, the first ask ends the input, and later asks go on in the output.
use mathlib.Core.Path.{◌≡◌, refl, sym, ap, ◌∙◌}
use mathlib.Core.List.{List, [], ◌∷◌, ◌++◌, append_assoc}
use Prim.Native.Nat.{ℕ, ◌+◌, ◌%◌}
use native.Mathlib.Nat.{mod-eq_of_lt}
use native.Mathlib.Omega.{arith}
use lib.ListN.{length, length-append}
use Rattle.encode.specs.Padding.{rate}
use Rattle.sponge.specs.Running.{Running, running, absorbed, finished, squeezed, after}
use Rattle.sponge.proofs.Absorbing.{absorbed_append}
use Rattle.sponge.proofs.Squeezing.{squeezed_add, length_squeezed}
use Rattle.sponge.proofs.Whole.{absorbed_position}
use Rattle.session_state.specs.declared.Phase.{Phase}
use Rattle.session_state.specs.declared.Phase.TheVariants.{Taking, Giving}
use Rattle.session_state.specs.declared.Session.{Session}
use Rattle.session_state.specs.Session.{input_end, giving_sponge}
use Rattle.session.specs.History.{SessionCall, accepted_pieces, output}
use Rattle.session.proofs.CallCase.{took_to, gave_to, CallCase, refused, took, gave, by_case}

-- the sponge that a session gives from, once it has taken m
unfoldable pub source_after : Phase → Session → List ℕ → Running
source_after (Taking p) s m = finished s.suffix (absorbed (running s.lanes (p % rate)) (m ++ input_end s.kmac))
source_after (Giving p) s m = running s.lanes p

source_after-none : (ph : Phase) (s : Session) → source_after ph s [] ≡ giving_sponge ph s
unfolding source_after giving_sponge
source_after-none (Taking p) s = refl
source_after-none (Giving p) s = refl

-- a piece first, and then more
source_after-more : (s : Session) (p : ℕ) (m l : List ℕ) → source_after (took_to s p m).phase (took_to s p m) l ≡ source_after (Taking p) s (m ++ l)
unfolding source_after
source_after-more s p m l =
    let from : Running = running s.lanes (p % rate) in
    let u : Running = absorbed from m in
    let end : List ℕ = input_end s.kmac in
    let i : u.position % rate ≡ u.position
    = mod-eq_of_lt (omega (arith, absorbed_position m s.lanes (p % rate) (omega arith))) in
    ap (λ (k : ℕ). finished s.suffix (absorbed (running u.lanes k) (l ++ end))) i
    ∙ ap (finished s.suffix) (sym (absorbed_append from m (l ++ end)))
    ∙ ap (λ (r : List ℕ). finished s.suffix (absorbed from r)) (sym (append_assoc m l end))

-- ---- a session that is giving takes nothing more

abbrev TakesNothing : List SessionCall → Session → Type 0
TakesNothing cs s = (p : ℕ) → s.phase ≡ Giving p → accepted_pieces s cs ≡ []

takes_nothing_none : (s : Session) → TakesNothing [] s
unfolding accepted_pieces
takes_nothing_none s p h = refl

takes_nothing_one : (c : SessionCall) (cs : List SessionCall) (s : Session) → CallCase s c → ((t : Session) → TakesNothing cs t) → TakesNothing (c ∷ cs) s
unfolding accepted_pieces
takes_nothing_one c cs s (refused k e) ih p h = rw e (ih s p h)
takes_nothing_one c cs s (took q ph bounded e) ih p h = cc
takes_nothing_one c cs s (gave {out} bounded e f) ih p h =
    rw e (ih (gave_to s out) (after (length out) (giving_sponge s.phase s)).position refl)

takes_nothing : (cs : List SessionCall) (s : Session) → TakesNothing cs s
takes_nothing = by_case TakesNothing takes_nothing_none takes_nothing_one

-- ---- the bytes given

-- n bytes, and then the first of those after them
join_one : (n : ℕ) (u : Running) (l : List ℕ) → l ≡ squeezed (length l) (after n u) → squeezed n u ++ l ≡ squeezed (length (squeezed n u ++ l)) u
join_one n u l h =
    ap (λ (r : List ℕ). squeezed n u ++ r) h
    ∙ sym (squeezed_add n (length l) u)
    ∙ ap (λ (k : ℕ). squeezed k u) (sym (length-append (squeezed n u) l ∙ ap (λ (k : ℕ). k + length l) (length_squeezed n u)))

abbrev Gives : List SessionCall → Session → Type 0
Gives cs s = output s cs ≡ squeezed (length (output s cs)) (source_after s.phase s (accepted_pieces s cs))

gives_none : (s : Session) → Gives [] s
unfolding output squeezed
gives_none s = refl

gives_one : (c : SessionCall) (cs : List SessionCall) (s : Session) → CallCase s c → ((t : Session) → Gives cs t) → Gives (c ∷ cs) s
unfolding output accepted_pieces source_after
gives_one c cs s (refused k e) ih = rw e (ih s)
gives_one c cs s (took {m} p ph bounded e) ih =
    let t : Session = took_to s p m in
    rw (e, ph) (ih t ∙ ap (squeezed (length (output t cs))) (source_after-more s p m (accepted_pieces t cs)))
gives_one c cs s (gave {out} bounded e f) ih =
    let from : Running = giving_sponge s.phase s in
    let t : Session = gave_to s out in
    let taken : accepted_pieces t cs ≡ [] = takes_nothing cs t (after (length out) from).position refl in
    rw (e, f, taken)
    (join_one (length out) from (output t cs) (ih t)
    ∙ ap (squeezed (length (squeezed (length out) from ++ output t cs))) (sym (source_after-none s.phase s)))

pub gives_joined : (cs : List SessionCall) (s : Session) → Gives cs s
gives_joined = by_case Gives gives_none gives_one
