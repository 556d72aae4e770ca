-- What `run` does, call by call: message and ending put in one after the other are put in joined.
use Rattle.std.proofs.Common.{◌≡◌, ℕ, ◌+◌, ◌%◌, ◌<◌, List, [], ◌∷◌, length, get_or, take, sym, ap, ◌∙◌, mod-eq_of_lt, add-one, take-suc}
use Rattle.encode.specs.Padding.{rate}
use Rattle.sponge.specs.Running.{Running, running, absorb_byte, absorbed, finished, squeezed}
use Rattle.sponge.proofs.Absorbing.{absorbed_append}
use Rattle.start.specs.declared.Started.{Started}
use Rattle.one_shot.specs.Run.{run_output}

-- one byte more of l: the lanes a at the position p become b at q
pub byte_more : (s : Running) (l a b : List ℕ) (p q i : ℕ) → i < length l → p < rate → running a p ≡ absorbed s (take i l)
    → running b q ≡ absorb_byte (running a (p % rate)) (get_or l i 0) → running b q ≡ absorbed s (take (i + 1) l)
unfolding absorbed
byte_more s l a b p q i h hp e f =
    f
    ∙ ap (λ (k : ℕ). absorb_byte (running a k) (get_or l i 0)) (mod-eq_of_lt hp)
    ∙ ap (λ (u : Running). absorb_byte u (get_or l i 0)) e
    ∙ rw add-one (sym (ap (absorbed s) (take-suc l i 0 h) ∙ absorbed_append s (take i l) (get_or l i 0 ∷ [])))

-- the sponge v after the start s; the message m, its ending e, the end of the input and the output
pub chained : (s : Started) (v : Running) (a b d m e : List ℕ) (p q r n : ℕ) → v ≡ running s.lanes 0
    → running a p ≡ absorbed (running v.lanes (v.position % rate)) m → running b q ≡ absorbed (running a p) e → q < rate
    → running d r ≡ finished s.suffix (running b (q % rate)) → squeezed n (running d r) ≡ run_output s m e n
unfolding run_output
chained s v a b d m e p q r n begins first second hq end =
    ap (squeezed n)
    (end
    ∙ ap (λ (k : ℕ). finished s.suffix (running b k)) (mod-eq_of_lt hq)
    ∙ ap (finished s.suffix)
    (second
    ∙ ap (λ (u : Running). absorbed u e) (first ∙ ap (λ (u : Running). absorbed (running u.lanes (u.position % rate)) m) begins)
    ∙ sym (absorbed_append (running s.lanes 0) m e)))
