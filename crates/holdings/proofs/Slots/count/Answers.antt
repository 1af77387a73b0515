-- `holdings::Slots::count` meets its contract: the count of the slots passed. Assumes nothing.
use mathlib.Core.Path.{◌≡◌, sym, ◌∙◌}
use native.Mathlib.Omega.{arith}
use borrow.Author.Rules.{rules}
use Rattle.layout.proofs.HeldLaws.{held_none, count-hit, count-miss}
use Rattle.holdings.proofs.Slots.count.Goals as goal
use Rattle.holdings.proofs.Slots.count.Goals.{then-passes, else-passes}

pub loop-i-init : goal.loop-i-init
loop-i-init g c = (search rules, λ p h. rw held_none)

pub loop-i-preserved : goal.loop-i-preserved
loop-i-preserved g c =
    let l = c.loop-i in
    elim c.if-passes.branch [
      | then-passes w ↦ (omega arith, λ p h. rw w.count-is (count-hit 0 _ l.i p l.count (sym (h l.i _ c.loop-i-test.true c.passes.ensures) ∙ w.if-passes.true) (l.invariant.1 p h)))
      | else-passes w ↦ (omega arith, λ p h. rw w.count-is (count-miss 0 _ l.i p l.count (sym (h l.i _ c.loop-i-test.true c.passes.ensures) ∙ w.if-passes.false) (l.invariant.1 p h)))
    ]

pub returns-clause-counted : goal.returns-clause-counted
returns-clause-counted g c p h =
    let e : c.loop-i.i ≡ c.args.self.n = omega arith in
    rw (← e) (c.loop-i.invariant.1 p h)
