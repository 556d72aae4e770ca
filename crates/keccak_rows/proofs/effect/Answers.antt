-- The rotated parities, beside the others (`FiveLanes.beside`).
use Rattle.fips202.specs.Fips202.{rotl}
use Rattle.in_place.specs.Laws.FiveLanes.{beside}
use Rattle.keccak_rows.proofs.effect.Goals as goal

pub returns : goal.returns
unfolding rotl
returns c =
    beside c.args.c c.rotate_left-4.ensures c.rotate_left.ensures c.rotate_left-3.ensures c.rotate_left-5.ensures c.rotate_left-2.ensures
