-- `octets::zero_bytes` meets its contract: the bytes passed are zeros. Assumes nothing.
use mathlib.Core.Path.{refl, sym}
use native.Mathlib.Omega.{arith}
use borrow.Author.Rules.{rules}
use borrow.Author.Tests.{eq-eqb, ne_eqb}
use Rattle.model.specs.Lists.{same}
use Rattle.model.specs.Numbers.{part}
use Rattle.octets.proofs.Laws.{zero-next, zero-no}
use Rattle.octets.proofs.zero_bytes.Goals as goal

pub loop-i-init : goal.loop-i-init
unfolding same part
loop-i-init c = (search rules, refl)

pub returns-then-s-at-ne0 : goal.returns-then-s-at-ne0
returns-then-s-at-ne0 c =
    let l = c.loop-i in
    let a = c.args in
    sym (zero-no a.s.now a.at a.n l.i (omega arith) (omega arith) (ne_eqb _ _ c.if-s-at-ne0.true))

pub loop-i-preserved : goal.loop-i-preserved
loop-i-preserved c =
    let l = c.loop-i in
    let a = c.args in
    (omega arith, zero-next a.s.now a.at l.i (omega arith) (eq-eqb _ _ c.if-s-at-ne0.false) l.invariant.1)
