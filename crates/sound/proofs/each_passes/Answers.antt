-- `sound::each_passes` meets its contract: the entries passed met the test, and below a byte's first slot none ends in it. Assumes nothing.
use Prim.Native.Nat.{◌+◌, ◌*◌}
use native.Mathlib.Omega.{arith}
use mathlib.Core.Path.{sym, ◌∙◌}
use borrow.Author.Count.{below_more}
use Rattle.model.proofs.ListLaws.{never}
use lib.ListN.{length-set}
use Rattle.sound.proofs.FirstLaws.{firsts-free, firsts-held}
use Rattle.sound.proofs.each_passes.Goals as goal
use Rattle.sound.proofs.each_passes.Goals.{then-in_use+else-not-passes, else-in_use}

pub loop-i-preserved : goal.loop-i-preserved
loop-i-preserved g c =
    let l = c.loop-i in
    let b = c.args.slots.bytes.now in
    let u = rw (c.slot-slot.ensures.0, c.slot-slot.ensures.1) at (sym c.in_use.ensures) in
    elim c.if-in_use.branch [
      | then-in_use+else-not-passes w ↦
          let p = w.min-from.result in
          let e = rw (c.slot-slot.ensures.0, c.slot-slot.ensures.1) at w.from-end.ensures in
          let f = firsts-held b c.args.last l.i l.first l.invariant.2 w.from-end.result p e (rw w.from.ensures at w.min-from.ensures) (omega (arith, e, c.requires.octets (320 * l.i + c.args.last))) in
          (omega arith, rw (w.first-is, length-set) l.invariant.1, rw w.first-is f, below_more _ l.i l.invariant.3 (λ h. (p, rw w.if-not-passes.false at w.passes.ensures)))
      | else-in_use w ↦
          let f = firsts-free b c.args.last l.i l.first l.invariant.2 (u ∙ w.if-in_use.false) in
          (omega arith, rw w.first-is l.invariant.1, rw w.first-is f, below_more _ l.i l.invariant.3 (λ h. never h.held (u ∙ w.if-in_use.false)))
    ]
