-- χ's forms (`ChiRows`) of five lanes, rotated.
use Rattle.std.proofs.Common.{arith, ap, ◌∙◌}
use Rattle.fips202.specs.Fips202.{rotl}
use Rattle.in_place.specs.Rows.{rotated, held_chi_row, held_row}
use Rattle.in_place.specs.Laws.FiveLanes.{five, five_bounded}
use Rattle.in_place.specs.Laws.ChiRows.{chi_row2}
use Rattle.keccak_rows.proofs.row2.Goals as goal

pub returns : goal.returns
unfolding held_row rotated rotl
returns c =
    chi_row2 c.rotate_left-b0.result c.rotate_left-b1.result c.rotate_left-b2.result c.rotate_left-b3.result c.rotate_left-b4.result
    (five_bounded _ _ _ _ _ (omega arith) (omega arith) (omega arith) (omega arith) (omega arith))
    ∙ ap (held_chi_row 2) (five c.rotate_left-b0.ensures c.rotate_left-b1.ensures c.rotate_left-b2.ensures c.rotate_left-b3.ensures c.rotate_left-b4.ensures)
