-- `record::Line::address` meets its contract. Assumes nothing.
use Rattle.model.specs.Table.{read_line}
use Rattle.record.proofs.Line.address.Goals as goal

pub returns : goal.returns
unfolding read_line
returns c = c.address_at.ensures.number
