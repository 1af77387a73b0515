-- `table::put_entry` meets its contract. Assumes nothing.
use Rattle.std.proofs.Common.{refl, arith}
use Rattle.model.proofs.NameLaws.{bytes-fold}
use Rattle.model.proofs.NumberLaws.{lent_is, bytes-part}
use Rattle.table.proofs.put_entry.Goals as goal

pub returns : goal.returns
returns c =
    record {
      stored = lent_is _ 320 refl c.put_slot.ensures;
      name_in_bytes = bytes-fold _ (bytes-part c.args.at c.args.e.len c.args.d.now (λ j. grind arith));
    }
