-- `options::slots_of` meets its contract: the table is as long as its layout says. Assumes nothing.
use Rattle.std.proofs.Common.{arith}
use Rattle.options.proofs.OptionLaws as law
use Rattle.options.proofs.slots_of.Goals as goal

pub slice_bounds-result-count : goal.slice_bounds-result-count
slice_bounds-result-count c = let s = (law.formed-of c.args.l (λ j. grind arith) c.requires.0 c.requires.1).size in omega arith

pub slice_bounds-result-start : goal.slice_bounds-result-start
slice_bounds-result-start c = let s = (law.formed-of c.args.l (λ j. grind arith) c.requires.0 c.requires.1).size in omega arith
