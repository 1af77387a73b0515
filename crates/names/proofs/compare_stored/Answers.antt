-- `names::compare_stored` meets its contract: lengths that differ; the words passed agree, and the two of which one differs, or what is behind them, are
-- compared. Assumes nothing.
use Prim.Native.Nat.{◌+◌, ◌*◌, ◌/◌, ◌%◌}
use mathlib.Core.Path.{◌≡◌, refl, sym, ap, ◌∙◌}
use native.Mathlib.Omega.{arith}
use borrow.Author.Rules.{rules}
use Rattle.model.specs.Numbers.{part}
use Rattle.model.specs.Names.{Compared}
use Rattle.model.proofs.ListLaws.{never, same_true, same_refl}
use Rattle.model.proofs.CompareLaws.{parts-other-lengths, parts-differ, parts-behind}
use Rattle.names.proofs.PairLaws.{part-agrees, pairs-within}
use Rattle.names.proofs.compare_stored.Goals as goal

pub returns-then-m-n : goal.returns-then-m-n
returns-then-m-n c =
    let x = c.args in
    sym (parts-other-lengths x.t.now x.t.now x.a x.c x.m x.n (omega arith) (omega arith) c.if-m-n.true)

pub loop-i-init : goal.loop-i-init
unfolding part
loop-i-init c = (search rules, refl)

pub overflow_add-result : goal.overflow_add-result
overflow_add-result c =
    let l = c.loop-i in
    let x = c.args in
    omega (arith, pairs-within x.t.now x.t.now (x.a + 16 * l.i) (x.c + 16 * l.i) 16 c.compare_words-found.ensures (omega arith))

pub returns-then-not-two_words : goal.returns-then-not-two_words
returns-then-not-two_words c =
    let l = c.loop-i in
    let x = c.args in
    let t = x.t.now in
    let e = c.if-m-n.false in
    let d = sym c.two_words.ensures ∙ c.if-not-two_words.true in
    let f = ap (λ (z : Compared). z.pairs) c.compare_words-found.ensures in
    sym (rw (e, f) (parts-differ t t x.a x.c x.n (16 * l.i) 16 (omega arith) (omega arith) (omega arith) l.invariant.1 (λ z. never (rw z (same_refl _)) d)))

pub loop-i-preserved : goal.loop-i-preserved
loop-i-preserved c =
    let l = c.loop-i in
    let x = c.args in
    let t = x.t.now in
    let z = same_true _ _ (sym c.two_words.ensures ∙ c.if-not-two_words.false) in
    let e : 16 * (l.i + 1) ≡ 16 * l.i + 16 = omega arith in
    (omega arith, rw e (part-agrees t t x.a x.c (16 * l.i) 16 l.invariant.1 z))

pub overflow_add-result-2 : goal.overflow_add-result-2
overflow_add-result-2 c =
    let x = c.args in
    omega (arith, pairs-within x.t.now x.t.now (x.a + 16 * (x.n / 16)) (x.c + 16 * (x.n / 16)) (x.n % 16) c.compare_words-rest.ensures (omega arith))

pub returns : goal.returns
returns c =
    let l = c.loop-i in
    let x = c.args in
    let t = x.t.now in
    let e = c.if-m-n.false in
    let w : l.i ≡ x.n / 16 = omega arith in
    let f = ap (λ (z : Compared). z.same) c.compare_words-rest.ensures in
    let g = ap (λ (z : Compared). z.pairs) c.compare_words-rest.ensures in
    sym (rw (e, f, g) (parts-behind t t x.a x.c x.n (16 * (x.n / 16)) (x.n % 16) (omega arith) (omega arith) (omega arith) (rw w at l.invariant.1)))
