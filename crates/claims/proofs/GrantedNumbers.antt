-- The number rule holds of the model. Assumes nothing.
use Prim.Native.Nat.{◌+◌}
use native.Mathlib.Omega.{arith}
use lib.ListN.{length}
use Rattle.model.specs.Rules.{holdings}
use Rattle.model.proofs.HoldingLaws.{entries-le}
use Rattle.model.proofs.FreshLaws.{first_one, fresh-first}
use Rattle.claims.specs.GrantedNumbers.{GrantedNumbers}

pub granted-numbers : GrantedNumbers
granted-numbers =
    record {
      first = λ t r s.
          fresh-first (length t.slots + 2) (holdings t) r (omega (arith, s.slots_max)) (omega (arith, entries-le t.clock.running t.slots));
      only = first_one;
    }
