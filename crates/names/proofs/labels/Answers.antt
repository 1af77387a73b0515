-- `names::labels` meets its contract: what is left of the name at each label decides it. Assumes nothing.
use Prim.Native.Nat.{◌+◌, ◌≤◌}
use mathlib.Core.Path.{sym, ◌∙◌}
use native.Mathlib.Omega.{arith}
use lib.ListN.{get_or}
use Rattle.names.proofs.NameLaws.{labels-short, labels-end, labels-long, labels_next}
use Rattle.names.proofs.labels.Goals as goal

pub returns-then-b-eq0 : goal.returns-then-b-eq0
returns-then-b-eq0 c =
    let l = c.loop-i in
    sym (labels-end _ _ _ _ l.invariant.1 (omega arith) (omega arith) (sym c.from-b.ensures ∙ c.if-b-eq0.true))

pub returns-then-b-ge64 : goal.returns-then-b-ge64
returns-then-b-ge64 c =
    let l = c.loop-i in
    let a = c.args in
    let m : 64 ≤ get_or a.t.now (a.at + l.i) 0 = omega (arith, c.from-b.ensures) in
    sym (labels-long _ _ _ _ l.invariant.1 (omega arith) (omega arith) m)

pub loop-i-preserved : goal.loop-i-preserved
loop-i-preserved c =
    let l = c.loop-i in
    (omega arith, labels_next _ _ _ _ l.invariant.1 (omega arith) (omega arith) _ c.from-b.ensures c.if-b-eq0.false c.if-b-ge64.false)

pub returns : goal.returns
returns c = sym (labels-short _ _ _ _ c.loop-i.invariant.1 (omega arith))
