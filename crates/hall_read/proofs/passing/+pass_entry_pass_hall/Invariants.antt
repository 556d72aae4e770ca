-- The pass over a hall goes over its entries one by one: what is left to pass over, from the place reached, comes to the answer.
-- It passes over an entry at its own level, and an entry calls it with a level fewer left: so levels left fall.
use Rattle.std.proofs.Common.{◌-◌, ◌≡◌, ◌+◌, ◌≤◌, drop, ◌*◌}
use Rattle.hall_entry.specs.Entries.{entries_of}
use Rattle.hall_read.specs.Passing.{passed_over}
use Rattle.hall_read.proofs.passing.+pass_entry_pass_hall.Given as goal

abbrev pub decreases-pass_entry : goal.decreases-pass_entry
decreases-pass_entry g l = 2 * l.levels

abbrev pub decreases-pass_hall : goal.decreases-pass_hall
decreases-pass_hall g l = 2 * l.levels + 1

abbrev pub invariant-pass_hall-loop : goal.invariant-pass_hall-loop
invariant-pass_hall-loop g l =
    let head = g.E.Entries.head in
    let s = g.E.Entries.items l.entries in
    record {
      counted : l.progress.entries ≤ l.progress.at;
      answer : passed_over l.chute l.progress (entries_of head l.levels (l.count - l.counter) l.progress.at l.progress.chutes (drop l.progress.at s))
          ≡ passed_over l.chute l.fn.from (entries_of head l.levels l.count l.fn.from.at l.fn.from.chutes (drop l.fn.from.at s));
    }
