-- The last bytes of `to_be_bytes` stand in the place lent for them (`BigEndian.placed_at`).
use Rattle.std.proofs.Common.{ap, ◌∙◌, ◌-◌, ℕ, List, take, drop}
use Rattle.encode.proofs.BigEndian.{placed_at}
use Rattle.encode.proofs.placed.Goals as goal

pub returns : goal.returns
returns c =
    let w = c.width_of-width.result in
    placed_at c.args.at c.args.n w c.copy_from_slice.new.self c.requires c.width_of-width.ensures.0 c.width_of-width.ensures.1
    (c.copy_from_slice.ensures.after ∙ ap (λ (l : List ℕ). take (8 - (8 - w)) (drop (8 - w) l)) c.to_be_bytes.ensures)
