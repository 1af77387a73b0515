-- `layout::lines_at` meets its contract: one place for each width. Assumes nothing.
use mathlib.Core.Path.{sym, ap}
use Rattle.model.specs.Table.{lines_at}
use Rattle.layout.specs.declared.Weeks.{Weeks}
use Rattle.layout.specs.Weeks.{weeks_of}
use Rattle.layout.proofs.lines_at.Goals as goal

pub returns-in-Ten : goal.returns-in-Ten
returns-in-Ten c = sym (ap (λ (w : Weeks). lines_at (record { weeks = weeks_of w })) c.in-Ten.is)

pub returns-in-Thirteen : goal.returns-in-Thirteen
returns-in-Thirteen c = sym (ap (λ (w : Weeks). lines_at (record { weeks = weeks_of w })) c.in-Thirteen.is)
