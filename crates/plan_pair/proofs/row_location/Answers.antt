-- What was located in each plan makes the location, and each arm is one of its cases.
use Rattle.std.proofs.Common.{rules}
use Rattle.plan_pair.proofs.Locations.{located_both}
use Rattle.plan_pair.proofs.row_location.Goals as goal

pub returns-in-Ok-Ok : goal.returns-in-Ok-Ok
returns-in-Ok-Ok c =
    let f = located_both c.args.site.now c.args.house.now c.args.chute _ _ c.row_of.ensures c.row_of-2.ensures _ _ c.located-in_site.ensures
    c.located-in_house.ensures in
    search (rules, rw (c.in-Ok-Ok.is-0, c.in-Ok-Ok.is-1) at f)

pub returns-in-Err-Ok : goal.returns-in-Err-Ok
returns-in-Err-Ok c =
    let f = located_both c.args.site.now c.args.house.now c.args.chute _ _ c.row_of.ensures c.row_of-2.ensures _ _ c.located-in_site.ensures
    c.located-in_house.ensures in
    search (rules, rw (c.in-Err-Ok.is-0, c.in-Err-Ok.is-1) at f)

pub returns-in-Ok-Err : goal.returns-in-Ok-Err
returns-in-Ok-Err c =
    let f = located_both c.args.site.now c.args.house.now c.args.chute _ _ c.row_of.ensures c.row_of-2.ensures _ _ c.located-in_site.ensures
    c.located-in_house.ensures in
    search (rules, rw (c.in-Ok-Err.is-0, c.in-Ok-Err.is-1) at f)

pub returns-in-Err-Err : goal.returns-in-Err-Err
returns-in-Err-Err c =
    let f = located_both c.args.site.now c.args.house.now c.args.chute _ _ c.row_of.ensures c.row_of-2.ensures _ _ c.located-in_site.ensures
    c.located-in_house.ensures in
    search (rules, rw (c.in-Err-Err.is-0, c.in-Err-Err.is-1) at f)
