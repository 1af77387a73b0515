-- `holdings::Slots::share_less_held` meets its contract: an entry of the address takes one from what is left, down to nothing. Assumes nothing.
use Prim.Native.Nat.{◌+◌, ◌-◌}
use mathlib.Core.Path.{◌≡◌, sym, ◌∙◌}
use native.Mathlib.Omega.{arith}
use borrow.Author.Rules.{rules}
use Rattle.model.specs.Rules.{held_by}
use Rattle.record.specs.Address.{address_of}
use Rattle.layout.proofs.HeldLaws.{held_none, count-hit, count-miss, count-grows}
use Rattle.holdings.proofs.Slots.share_less_held.Goals as goal
use Rattle.holdings.proofs.Slots.share_less_held.Goals.{then-has_holder+else-left-eq0, else-has_holder}

pub loop-i-init : goal.loop-i-init
loop-i-init c = (search rules, search rules, search rules, rw held_none (omega arith))

pub returns-then-left-eq0 : goal.returns-then-left-eq0
returns-then-left-eq0 c =
    let l = c.loop-i in
    let a = c.args in
    let p = held_by (address_of a.address) in
    let h = count-hit 0 a.self.bytes.now l.i p (a.share - l.left) (sym (rw (c.slot.ensures.0, c.slot.ensures.1) at c.has_holder.ensures) ∙ c.if-has_holder.true) l.invariant.3 in
    omega (arith, h, count-grows 0 a.self.bytes.now p (l.i + 1) a.self.n (omega arith))

pub loop-i-preserved : goal.loop-i-preserved
loop-i-preserved c =
    let l = c.loop-i in
    let s = sym (rw (c.slot.ensures.0, c.slot.ensures.1) at c.has_holder.ensures) in
    elim c.if-has_holder.branch [
      | then-has_holder+else-left-eq0 w ↦ (omega arith, omega arith, omega arith, omega (arith, count-hit 0 _ l.i _ _ (s ∙ w.if-has_holder.true) l.invariant.3))
      | else-has_holder w ↦ (omega arith, omega arith, omega arith, omega (arith, count-miss 0 _ l.i _ _ (s ∙ w.if-has_holder.false) l.invariant.3))
    ]

pub returns : goal.returns
returns c =
    let e : c.loop-i.i ≡ c.args.self.n = omega arith in
    omega (arith, rw e at c.loop-i.invariant.3)
