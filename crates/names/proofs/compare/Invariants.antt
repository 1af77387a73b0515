-- `names::compare` meets its contract: the sent bytes are made the folded ones. Assumes nothing.
use Rattle.model.specs.Names.{fold}
use Rattle.names.proofs.compare.Given as goal

abbrev pub ghost-compare_bytes : goal.ghost-compare_bytes
ghost-compare_bytes a = fold
