-- `clock::valid` meets its contract: one test after the other. Assumes nothing.
use Rattle.std.proofs.Common.{le-ltb, lt-ltb}
use Rattle.clock.proofs.valid.Goals as goal

pub returns-then-week-weeks_in : goal.returns-then-week-weeks_in
returns-then-week-weeks_in c = rw (le-ltb _ _ (rw c.weeks_in.ensures at c.if-week-weeks_in.true))

pub returns : goal.returns
returns c = rw (lt-ltb _ _ (rw c.weeks_in.ensures at c.if-week-weeks_in.false))
