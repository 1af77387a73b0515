-- `table::put_name` meets its contract. Assumes nothing.
use native.Mathlib.Omega.{arith}
use mathlib.Core.Path.{◌≡◌}
use mathlib.Core.List.{map}
use lib.ListN.{length}
use Rattle.model.specs.Numbers.{part}
use Rattle.model.specs.Names.{fold}
use Rattle.table.proofs.EntryLaws as entry
use Rattle.table.proofs.put_name.Goals as goal

pub returns : goal.returns
returns c =
    let n = map fold (part c.args.at c.args.len c.args.d.now) in
    let e : length n ≡ c.args.len = entry.folded-length c.args.d.now c.args.at c.args.len c.requires.1 in
    rw (c.clear.ensures, c.copy_folded.ensures, c.put8.ensures, c.from-n.ensures)
    (entry.name-bytes c.args.s.now n c.args.len e (omega (arith, c)) (omega (arith, c)))
