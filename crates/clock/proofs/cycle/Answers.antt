-- `clock::cycle` meets its contract: one cycle for each width. Assumes nothing.
use Rattle.std.proofs.Common.{sym, ap}
use Rattle.model.specs.Clock.{cycle_of}
use Rattle.layout.specs.declared.Weeks.{Weeks}
use Rattle.layout.specs.Weeks.{weeks_of}
use Rattle.clock.proofs.cycle.Goals as goal

pub returns-in-Ten : goal.returns-in-Ten
returns-in-Ten c = sym (ap (λ (w : Weeks). cycle_of (weeks_of w)) c.in-Ten.is)

pub returns-in-Thirteen : goal.returns-in-Thirteen
returns-in-Thirteen c = sym (ap (λ (w : Weeks). cycle_of (weeks_of w)) c.in-Thirteen.is)
