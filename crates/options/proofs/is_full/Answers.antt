-- `options::is_full` meets its contract: what was counted is the table's. Assumes nothing.
use Rattle.std.proofs.Common.{arith, length-take, length-drop}
use Rattle.record.specs.Address.{address_of}
use Rattle.layout.proofs.PartLaws.{tail-is}
use Rattle.options.proofs.OptionLaws as law
use Rattle.options.proofs.is_full.Goals as goal

pub slice_bounds-is_full-count : goal.slice_bounds-is_full-count
slice_bounds-is_full-count c = let s = (law.formed-of c.args.l (λ j. grind arith) c.requires.0 c.requires.1).size in omega arith

pub slice_bounds-is_full-start : goal.slice_bounds-is_full-start
slice_bounds-is_full-start c = let s = (law.formed-of c.args.l (λ j. grind arith) c.requires.0 c.requires.1).size in omega arith

pub is_full-requires : goal.is_full-requires
is_full-requires c = let s = (law.formed-of c.args.l (λ j. grind arith) c.requires.0 c.requires.1).size in simp (length-take, length-drop) (omega arith)

pub returns : goal.returns
returns c =
    law.full-told (law.formed-of c.args.l (λ j. grind arith) c.requires.0 c.requires.1) c.slots_of.result c.slots_of.ensures (tail-is c.args.t.now c.requires.1.1) (address_of c.args.address) c.is_full.ensures
