-- `names::compare_words` meets its contract: the words passed agree, and the first that differs, or what is behind them, is compared byte by byte.
-- Assumes nothing.
use Prim.Native.Nat.{◌+◌, ◌*◌, ◌/◌, ◌%◌}
use mathlib.Core.Path.{◌≡◌, refl, sym, ap, ◌∙◌}
use native.Mathlib.Omega.{arith}
use borrow.Author.Rules.{rules}
use Rattle.std.proofs.lemmas.List.{map-id}
use Rattle.model.specs.Numbers.{Bytes, part}
use Rattle.model.specs.Names.{Compared}
use Rattle.model.proofs.CompareLaws.{parts-differ, parts-behind}
use Rattle.names.proofs.PairLaws.{part-agrees, word-agrees, word-differs, pairs-within}
use Rattle.names.proofs.compare_words.Goals as goal

pub loop-i-init : goal.loop-i-init
unfolding part
loop-i-init c = (search rules, refl)

pub overflow_add-result : goal.overflow_add-result
overflow_add-result c =
    let l = c.loop-i in
    let x = c.args in
    omega (arith, pairs-within x.t.now x.t.now (x.a + 8 * l.i) (x.c + 8 * l.i) 8 (rw map-id at c.compare_bytes-word.ensures) (omega arith))

pub returns-then-get64 : goal.returns-then-get64
returns-then-get64 c =
    let l = c.loop-i in
    let x = c.args in
    let d = rw (c.get64.ensures, c.get64-in-loop-i.ensures) at c.if-get64.true in
    let f = ap (λ (z : Compared). z.pairs) (rw map-id at c.compare_bytes-word.ensures) in
    sym (rw f (parts-differ x.t.now x.t.now x.a x.c x.n (8 * l.i) 8 (omega arith) (omega arith) (omega arith) l.invariant.1 (word-differs x.t.now x.t.now (x.a + 8 * l.i) (x.c + 8 * l.i) 8 d)))

pub loop-i-preserved : goal.loop-i-preserved
loop-i-preserved c =
    let l = c.loop-i in
    let x = c.args in
    let bytes : Bytes x.t.now = λ j. omega (arith, c.type_inv.t j) in
    let z = sym c.get64.ensures ∙ c.if-get64.false ∙ c.get64-in-loop-i.ensures in
    let w = word-agrees x.t.now x.t.now (x.a + 8 * l.i) (x.c + 8 * l.i) 8 bytes bytes (omega arith) (omega arith) z in
    let e : 8 * (l.i + 1) ≡ 8 * l.i + 8 = omega arith in
    (omega arith, rw e (part-agrees x.t.now x.t.now x.a x.c (8 * l.i) 8 l.invariant.1 w))

pub overflow_add-result-2 : goal.overflow_add-result-2
overflow_add-result-2 c =
    let x = c.args in
    omega (arith, pairs-within x.t.now x.t.now (x.a + 8 * (x.n / 8)) (x.c + 8 * (x.n / 8)) (x.n % 8) (rw map-id at c.compare_bytes-rest.ensures) (omega arith))

pub returns : goal.returns
returns c =
    let l = c.loop-i in
    let x = c.args in
    let w : l.i ≡ x.n / 8 = omega arith in
    let f = ap (λ (z : Compared). z.same) (rw map-id at c.compare_bytes-rest.ensures) in
    let g = ap (λ (z : Compared). z.pairs) (rw map-id at c.compare_bytes-rest.ensures) in
    sym (rw (f, g) (parts-behind x.t.now x.t.now x.a x.c x.n (8 * (x.n / 8)) (x.n % 8) (omega arith) (omega arith) (omega arith) (rw w at l.invariant.1)))
