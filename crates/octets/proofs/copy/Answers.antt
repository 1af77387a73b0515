-- The proof of `copy`. Assumes nothing.
use native.Mathlib.Omega.{arith}
use mathlib.Core.Path.{refl, sym}
use lib.ListN.{length-set}
use Rattle.model.specs.Numbers.{part}
use Rattle.model.proofs.NumberLaws.{copy_step, splice-none}
use Rattle.octets.proofs.copy.Goals as goal

pub loop-i-init : goal.loop-i-init
unfolding part
loop-i-init c = (omega arith, refl, sym (splice-none _ _))

pub loop-i-preserved : goal.loop-i-preserved
loop-i-preserved c =
    let l = c.loop-i in
    (omega arith, simp length-set (omega arith), rw l.invariant.2 (copy_step _ _ l.i _ _ (omega arith) (omega arith)))
