-- `record::Line::share` meets its contract. Assumes nothing.
use Rattle.std.proofs.Common.{refl}
use Rattle.model.specs.Table.{read_line}
use Rattle.record.proofs.Line.share.Goals as goal

pub returns : goal.returns
unfolding read_line
returns c = refl
