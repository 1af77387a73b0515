-- `record::same_asked` meets its contract: the port, type and class as one, the name. Assumes nothing.
use Prim.Native.Nat.{◌+◌}
use mathlib.Core.Path.{ap, ◌∙◌}
use native.Mathlib.Omega.{arith}
use borrow.Author.Tests.{eq-eqb, ne_eqb}
use Rattle.model.specs.Names.{Compared}
use Rattle.model.proofs.CompareLaws.{compared_same}
use Rattle.record.proofs.FieldLaws.{asked_is}
use Rattle.record.proofs.same_asked.Goals as goal

pub returns-then-get16 : goal.returns-then-get16
returns-then-get16 c =
    let x = c.args in
    rw (asked_is x.t.now x.a x.c (λ i. omega (arith, c.type_inv.t i)), ← c.get16.ensures, ← c.get16-2.ensures, ne_eqb _ _ c.if-get16.true)

pub returns-then-get32 : goal.returns-then-get32
returns-then-get32 c =
    let x = c.args in
    rw (
      asked_is x.t.now x.a x.c (λ i. omega (arith, c.type_inv.t i)),
      ← c.get16.ensures,
      ← c.get16-2.ensures,
      eq-eqb _ _ c.if-get16.false,
      ← c.get32.ensures,
      ← c.get32-2.ensures,
      ne_eqb _ _ c.if-get32.true,
    )

pub compare_stored-compared-requires : goal.compare_stored-compared-requires
compare_stored-compared-requires c =
    let x = c.args in
    (omega (arith, c.from.ensures, c.type_inv.t (x.a + 39)), omega (arith, c.from-2.ensures, c.type_inv.t (x.c + 39)))

pub returns : goal.returns
returns c =
    let x = c.args in
    rw (
      asked_is x.t.now x.a x.c (λ i. omega (arith, c.type_inv.t i)),
      ← c.get16.ensures,
      ← c.get16-2.ensures,
      eq-eqb _ _ c.if-get16.false,
      ← c.get32.ensures,
      ← c.get32-2.ensures,
      eq-eqb _ _ c.if-get32.false,
      ← c.from.ensures,
      ← c.from-2.ensures,
    ) (ap (λ (z : Compared). z.same) c.compare_stored-compared.ensures ∙ compared_same _ _)
