-- The byte of the eight that the definition shifts down to (`Lanes.byte_of_eight`).
use Rattle.std.proofs.Common.{◌%◌, ◌/◌, ◌∙◌, List, ℕ, ap, get_or, arith}
use Rattle.fips202.specs.Bytes.{byte_at}
use Rattle.lanes_out.proofs.Lanes.{byte_of_eight}
use Rattle.lanes_out.proofs.byte_at.Goals as goal

pub returns : goal.returns
unfolding byte_at
returns c =
    let p = c.args.p in
    ap (λ (l : List ℕ). get_or l (p % 8) 0) c.to_le_bytes.ensures ∙ byte_of_eight (get_or c.args.lanes.now (p / 8) 0) (p % 8) (omega arith)
