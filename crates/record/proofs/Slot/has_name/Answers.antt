-- `record::Slot::has_name` meets its contract: the comparison of the stored name and the one that d has. Assumes nothing.
use mathlib.Core.Path.{ap, ◌∙◌}
use Rattle.model.specs.Names.{Compared}
use Rattle.model.proofs.CompareLaws.{compared_same}
use Rattle.record.proofs.Slot.has_name.Goals as goal

pub returns : goal.returns
returns c = rw (← c.name_length.ensures, ← c.from.ensures) (ap (λ (z : Compared). z.same) c.compare-compared.ensures ∙ compared_same _ _)
