-- A read takes the next bytes of the input and puts them behind those that stand in the buffer.
use Rattle.std.proofs.Common.{rules, ◌≡◌, ℕ, ◌+◌, ◌≤◌, List, ◌++◌, ap, ◌∙◌, subst, length, take, drop, le_refl, drop_at, length-take-le}
use Rattle.std.proofs.Math.Seq.{take-add, take-append-le}
use Rattle.std.proofs.KnownBytes.{Consumes-trans}
use Rattle.std.proofs.lemmas.Slice.{take-put_mid_below}
use Rattle.std.specs.Io.KnownBytes.{Consumes}
use borrow.Rule.Slice.PartMut.{put_mid, post_of}
use Rattle.reading.proofs.read_full.Goals as goal

-- what stands in the first a + m bytes, where m of `ys` were put from the place a on
behind : (a k m : ℕ) (xs ys : List ℕ) → a ≤ length xs → m ≤ length ys → take a xs ++ take m ys ≡ take (a + m) (put_mid a k xs ys)
behind a k m xs ys inside fits =
    let all : List ℕ = put_mid a k xs ys in
    let front : take a all ≡ take a xs = take-put_mid_below a k xs ys a (le_refl a) inside in
    let next : drop a all ≡ ys ++ post_of a k xs = drop_at (take a xs) (ys ++ post_of a k xs) a (length-take-le a xs inside) in
    let put : take m (drop a all) ≡ take m ys = ap (take m) next ∙ take-append-le m ys (post_of a k xs) fits in
    let split : take (a + m) all ≡ take a all ++ take m (drop a all) = take-add a m all in
    cc

pub loop-done-preserved : goal.loop-done-preserved
loop-done-preserved g c =
    let new = c.in_ok-n.ensures in
    let all = behind c.loop-done.done _ c.in_ok-n.n c.loop-done.buffer c.read.new.buf c.loop-done.invariant.inside new.bound.0 in
    record {
      inside = search rules;
      taken = subst (Consumes _ _) all (Consumes-trans _ _ _ _ _ c.loop-done.invariant.taken new.bytes.0);
    }
