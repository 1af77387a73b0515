-- `names::two_words` meets its contract: the numbers of the bytes are the same. Assumes nothing.
use mathlib.Core.Path.{sym, ◌∙◌}
use native.Mathlib.Omega.{arith}
use borrow.Author.Tests.{eq-eqb, ne_eqb}
use Rattle.model.specs.Numbers.{Bytes}
use Rattle.names.proofs.PairLaws.{two-words-same}
use Rattle.names.proofs.two_words.Goals as goal

pub returns-then-get64 : goal.returns-then-get64
returns-then-get64 c =
    let x = c.args in
    let bytes : Bytes x.t.now = λ j. omega (arith, c.type_inv.t j) in
    let e = rw (c.get64.ensures, c.get64-2.ensures) at c.if-get64.true in
    sym (two-words-same x.t.now x.t.now x.a x.c 8 bytes bytes (omega arith) (omega arith)
    ∙ rw (eq-eqb _ _ e, ← c.get64-then-get64.ensures, ← c.get64-then-get64-2.ensures))

pub returns-else-get64 : goal.returns-else-get64
returns-else-get64 c =
    let x = c.args in
    let bytes : Bytes x.t.now = λ j. omega (arith, c.type_inv.t j) in
    let d = rw (c.get64.ensures, c.get64-2.ensures) at c.if-get64.false in
    ne_eqb _ _ c.if-get64.false ∙ sym (two-words-same x.t.now x.t.now x.a x.c 8 bytes bytes (omega arith) (omega arith) ∙ rw (ne_eqb _ _ d))
