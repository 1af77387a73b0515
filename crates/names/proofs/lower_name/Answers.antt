-- `names::lower_name` meets its contract: labels and case together are the name. Assumes nothing.
use mathlib.Core.Path.{sym, ◌∙◌}
use Rattle.names.proofs.NameLaws.{name-is}
use Rattle.names.proofs.lower_name.Goals as goal

pub returns-then-labels : goal.returns-then-labels
returns-then-labels c = rw (name-is, sym c.labels.ensures ∙ c.if-labels.true) c.lower_case.ensures

pub returns-else-labels : goal.returns-else-labels
returns-else-labels c = rw (name-is, sym c.labels.ensures ∙ c.if-labels.false) c.if-labels.false
