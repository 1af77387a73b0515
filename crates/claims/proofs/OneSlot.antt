-- One slot, read and written, of the model's definitions. Assumes nothing.
use mathlib.Core.Path.{refl}
use lib.ListN.{length-set}
use lib.Seq.{get_or-set_same, get_or-set_other}
use Rattle.model.specs.Table.{free}
use Rattle.claims.specs.OneSlot.{OneSlot}

pub one-slot : OneSlot
one-slot =
    record {
      read = λ t j. refl;
      written = λ t j s h.
          record {
            layout = refl;
            clock = refl;
            roster = refl;
            size = length-set t.slots j s;
            here = get_or-set_same t.slots j s free h;
            others = λ k n. get_or-set_other t.slots j k s free n;
          };
    }
