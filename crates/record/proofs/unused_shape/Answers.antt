-- `record::unused_shape` meets its contract: the kind and the zeros as three numbers. Assumes nothing.
use native.Mathlib.Omega.{arith}
use borrow.Author.Tests.{eq-eqb, ne_eqb}
use Rattle.record.proofs.FieldLaws.{unused-is}
use Rattle.record.proofs.unused_shape.Goals as goal

pub returns-then-get64-ne-UNUSED_HEAD : goal.returns-then-get64-ne-UNUSED_HEAD
returns-then-get64-ne-UNUSED_HEAD c =
    rw (
      unused-is c.args.t.now c.args.a (λ i. omega (arith, c.type_inv.t i)) c.requires,
      ← c.get64.ensures,
      ne_eqb _ _ c.if-get64-ne-UNUSED_HEAD.true,
    )

pub returns-then-get64-ne0 : goal.returns-then-get64-ne0
returns-then-get64-ne0 c =
    rw (
      unused-is c.args.t.now c.args.a (λ i. omega (arith, c.type_inv.t i)) c.requires,
      ← c.get64.ensures,
      eq-eqb _ _ c.if-get64-ne-UNUSED_HEAD.false,
      ← c.get64-2.ensures,
      ne_eqb _ _ c.if-get64-ne0.true,
    )

pub returns : goal.returns
returns c =
    rw (
      unused-is c.args.t.now c.args.a (λ i. omega (arith, c.type_inv.t i)) c.requires,
      ← c.get64.ensures,
      eq-eqb _ _ c.if-get64-ne-UNUSED_HEAD.false,
      ← c.get64-2.ensures,
      eq-eqb _ _ c.if-get64-ne0.false,
      ← c.get64-3.ensures,
    )
