-- A turn takes the next byte of what is left; past the end nothing is left.
use Rattle.std.proofs.Common.{◌≡◌, drop, get_or, ℕ, ◌+◌, ◌<◌, ◌≤◌, length, List, sym, ap, ◌∙◌, add-one, drop-cons}
use Rattle.std.proofs.Math.ListN.{drop_of_length-le}
use Rattle.testing.specs.Data.{add_number, add_bytes}
use Rattle.testing.proofs.add_bytes.Goals as goal

more : (s t i : ℕ) (l : List ℕ) → i < length l → add_bytes s (drop i l) ≡ t → add_bytes (add_number s (get_or l i 0)) (drop (i + 1) l) ≡ t
unfolding add_bytes
more s t i l h e = rw (add-one i) (rw (drop-cons l i 0 h) at e)

done : (s t i : ℕ) (l : List ℕ) → length l ≤ i → add_bytes s (drop i l) ≡ t → s ≡ t
unfolding add_bytes
done s t i l h e = sym (ap (add_bytes s) (drop_of_length-le l h)) ∙ e

pub loop-byte-preserved : goal.loop-byte-preserved
loop-byte-preserved c =
    let e = more c.loop-byte.all _ c.loop-byte.byte-index c.args.bytes.now c.loop-byte-test.true c.loop-byte.invariant in
    rw (c.add_number-all.ensures, c.from.ensures) e

pub returns : goal.returns
returns c = done c.loop-byte.all _ c.loop-byte.byte-index c.args.bytes.now c.loop-byte-test.false c.loop-byte.invariant
