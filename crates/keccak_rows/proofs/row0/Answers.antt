-- χ's forms (`ChiRows`) of five lanes, of which the first is not rotated; and ι.
use Rattle.std.proofs.Common.{arith, refl, ap, ◌∙◌, List, ℕ, get_or}
use Rattle.std.specs.Prelude.{set}
use Rattle.std.specs.Int.Bits.{bit_xor}
use Rattle.fips202.specs.Fips202.{rotl}
use Rattle.in_place.specs.Rows.{rotated, held_chi_row, held_row, held_first_row}
use Rattle.in_place.specs.Laws.FiveLanes.{five, five_bounded}
use Rattle.in_place.specs.Laws.ChiRows.{chi_row0}
use Rattle.keccak_rows.proofs.row0.Goals as goal

pub returns : goal.returns
unfolding held_first_row held_row rotated rotl
returns c =
    let a0 = get_or c.args.a 0 0 in
    ap (λ (e : List ℕ). set e 0 (bit_xor (get_or e 0 0) c.args.k))
    (chi_row0 a0 c.rotate_left-b1.result c.rotate_left-b2.result c.rotate_left-b3.result c.rotate_left-b4.result
    (five_bounded _ _ _ _ _ (omega arith) (omega arith) (omega arith) (omega arith) (omega arith))
    ∙ ap (held_chi_row 0) (five {a0 = a0} refl c.rotate_left-b1.ensures c.rotate_left-b2.ensures c.rotate_left-b3.ensures c.rotate_left-b4.ensures))
