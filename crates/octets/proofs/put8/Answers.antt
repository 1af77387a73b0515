-- `octets::put8` meets its contract. Assumes nothing.
use native.Mathlib.Omega.{arith}
use Rattle.model.proofs.NumberLaws.{set-splice}
use Rattle.octets.proofs.put8.Goals as goal

pub returns : goal.returns
returns c = set-splice c.args.s.now c.args.at c.args.x (omega arith) (omega arith)
