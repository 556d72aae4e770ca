-- The location is found, and the part at it returned: each is what the definition is made of.
use Rattle.std.proofs.Common.{ap, ◌∙◌}
use Rattle.plan_part.specs.Part.{part_of, part_at, address_of, address_at, row_bytes_of}
use Rattle.plan_part.proofs.Parts.{part_answered, address_answered}
use Rattle.plan_part.proofs.row_bytes.Goals as goal

pub returns : goal.returns
unfolding row_bytes_of
returns c =
    let a = c.args in
    let r = c.row_location.result in
    let e = c.row_location.ensures in
    record {
      bytes = c.row_part.ensures.0 ∙ ap (part_at a.site.now a.house.now) c.ok-location.ensures.value ∙ part_answered a.site.now a.house.now r
          ∙ ap (part_of a.site.now a.house.now) e;
      address = c.row_part.ensures.1 ∙ ap (address_at a.site a.house) c.ok-location.ensures.value ∙ address_answered a.site a.house r
          ∙ ap (address_of a.site a.house) e;
    }
