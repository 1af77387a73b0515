-- `names::fold_table::folded` meets its contract: the entry is the byte folded. Assumes nothing.
use native.Mathlib.Omega.{arith}
use Rattle.names.proofs.FoldTable.{fold_at}
use Rattle.names.proofs.fold_table.folded.Goals as goal

pub returns : goal.returns
returns c = rw c.requires (fold_at c.args.b (omega arith))
