-- `record::Line::has_address` meets its contract. Assumes nothing.
use Rattle.model.specs.Table.{read_line}
use Rattle.record.proofs.Line.has_address.Goals as goal

pub returns : goal.returns
unfolding read_line
returns c = c.has_address.ensures
