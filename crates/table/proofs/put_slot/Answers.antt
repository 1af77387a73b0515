-- `table::put_slot` meets its contract. Assumes nothing.
use native.Mathlib.Omega.{arith}
use mathlib.Core.List.{map}
use Rattle.model.specs.Numbers.{part}
use Rattle.model.specs.Names.{fold}
use Rattle.table.proofs.EntryLaws as entry
use Rattle.table.proofs.put_slot.Goals as goal

pub returns : goal.returns
returns c =
    let e = entry.folded-length c.args.d.now c.args.at c.args.e.len c.requires.1 in
    rw (c.put_name.ensures, c.put_lease_fields.ensures, c.put_holder_fields.ensures)
    (entry.entry-bytes c.args.s.now c.args.e (map fold (part c.args.at c.args.e.len c.args.d.now)) (omega (arith, c)) (omega (arith, c, e)))
