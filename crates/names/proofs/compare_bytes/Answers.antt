-- `names::compare_bytes` meets its contract: the bytes passed agree, and the first that differs decides. Assumes nothing.
use Prim.Native.Nat.{◌+◌}
use mathlib.Core.Path.{◌≡◌, refl, sym, ◌∙◌}
use mathlib.Core.List.{map}
use native.Mathlib.Omega.{arith}
use borrow.Author.Rules.{rules}
use Rattle.model.specs.Numbers.{part}
use Rattle.model.proofs.ListLaws.{length-map, get_or-map}
use Rattle.model.proofs.CompareLaws.{parts-agree, pair-differs}
use Rattle.names.proofs.FoldLaws.{map-part}
use Rattle.names.proofs.PairLaws.{pair-agrees}
use Rattle.names.proofs.compare_bytes.Goals as goal

pub loop-i-init : goal.loop-i-init
unfolding part
loop-i-init g c = (search rules, refl)

pub returns-then-t-a : goal.returns-then-t-a
returns-then-t-a g c =
    let l = c.loop-i in
    let x = c.args in
    let k = length-map g.made x.d.now in
    let f = c.requires.1.1.1 _ _ c.read.ensures ∙ sym (get_or-map g.made x.d.now (x.b + l.i) 0 0 (omega arith)) in
    sym (rw (map-part g.made x.b x.n x.d.now) (pair-differs x.t.now (map g.made x.d.now) x.a x.b x.n l.i (omega arith) (omega arith) (omega arith) l.invariant.1 (rw f at c.if-t-a.true)))

pub loop-i-preserved : goal.loop-i-preserved
loop-i-preserved g c =
    let l = c.loop-i in
    let x = c.args in
    let k = length-map g.made x.d.now in
    let f = c.requires.1.1.1 _ _ c.read.ensures ∙ sym (get_or-map g.made x.d.now (x.b + l.i) 0 0 (omega arith)) in
    (omega arith, pair-agrees x.t.now (map g.made x.d.now) x.a x.b l.i l.invariant.1 (omega arith) (omega arith) (c.if-t-a.false ∙ f))

pub returns : goal.returns
returns g c =
    let l = c.loop-i in
    let x = c.args in
    let f : l.i ≡ x.n = omega arith in
    sym (rw (map-part g.made x.b x.n x.d.now) (parts-agree x.t.now (map g.made x.d.now) x.a x.b x.n (omega arith) (rw f at l.invariant.1)))
