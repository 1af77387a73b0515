-- `sound::Table::few_sound` meets its contract: the entries passed meet the rules of holders, and k is the reserve and they. Assumes nothing.
use Prim.Native.Nat.{◌≤◌}
use mathlib.Core.Path.{sym, ◌∙◌}
use native.Mathlib.Omega.{arith}
use borrow.Author.Rules.{rules}
use Rattle.model.specs.Lists.{every, no_two}
use Rattle.roster.specs.Lines.{lines_of}
use Rattle.layout.proofs.HeldLaws.{held_none, held-miss}
use Rattle.layout.proofs.ReserveLaws.{reserve-start}
use Rattle.sound.proofs.ShareLaws.{one-slot, beyond-yes, beyond-no}
use Rattle.sound.proofs.Table.few_sound.Goals as goal
use Rattle.sound.proofs.Table.few_sound.Goals.{then-in_use+in-Some, else-in_use}

pub loop-i-init : goal.loop-i-init
unfolding every no_two
loop-i-init c =
    (search rules, search rules, rw held_none, rw held_none, c.requires.1 ∙ reserve-start 0 c.args.self.slots.bytes.now (lines_of c.args.self.lines))

pub returns-in_default : goal.returns-in_default
returns-in_default c =
    let l = c.loop-i in
    let u = sym (rw (c.slot.ensures.0, c.slot.ensures.1) at c.in_use.ensures) ∙ c.if-in_use.true in
    let e = sym c.in_default.is ∙ c.entry_beyond_share.ensures in
    sym (beyond-no c.args.self.slots.bytes.now l.i u (lines_of c.args.self.lines) c.args.self.valid c.args.self.slots.n (omega arith) e)

pub loop-i-preserved : goal.loop-i-preserved
loop-i-preserved c =
    let l = c.loop-i in
    let t = c.args.self.slots.bytes.now in
    let u = sym (rw (c.slot.ensures.0, c.slot.ensures.1) at c.in_use.ensures) in
    elim c.if-in_use.branch [
      | then-in_use+in-Some w ↦
          let x = w.in-Some.beyond in
          let e = sym w.in-Some.is ∙ w.entry_beyond_share.ensures in
          let y = beyond-yes t l.i (u ∙ w.if-in_use.true) (lines_of c.args.self.lines) c.args.self.valid l.k x e c.args.self.apart l.invariant.2 l.invariant.3 l.invariant.4 in
          let n : w.from-k.result ≤ 1 = rw w.from-k.ensures (one-slot x) in
          (omega arith, omega (arith, w.k-is), y.0, y.1, rw (w.k-is, w.from-k.ensures) y.2)
      | else-in_use w ↦
          let h = held-miss 0 t l.i (u ∙ w.if-in_use.false) in
          (omega arith, omega arith, rw h l.invariant.2, rw h l.invariant.3, rw (w.k-is, h) l.invariant.4)
    ]
