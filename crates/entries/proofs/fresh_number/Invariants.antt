-- `entries::fresh_number` meets its contract: none of the numbers so far is fresh. Assumes nothing.
use Rattle.std.proofs.Common.{◌≡◌, ◌+◌, ◌-◌}
use Rattle.model.specs.Rules.{fresh_number}
use Rattle.holdings.specs.Slots.{held_in}
use Rattle.entries.proofs.fresh_number.Given as goal

abbrev pub invariant-loop : goal.invariant-loop
invariant-loop l =
    fresh_number (l.slots.n + 2) (held_in l.slots) l.r ≡ fresh_number (l.slots.n + 2 - l.counter) (held_in l.slots) l.x
