-- `record::Slot::shape` meets its contract: the kind says where the zeros start. Assumes nothing.
use Prim.Native.Nat.{◌+◌, ◌-◌}
use mathlib.Core.Path.{◌≡◌, sym, ◌∙◌}
use native.Mathlib.Omega.{arith}
use borrow.Author.Tests.{eq-eqb, ne_eqb}
use lib.ListN.{get_or}
use Rattle.layout.specs.Shape.{slot_shape}
use Rattle.record.proofs.Slot.shape.Goals as goal
use Rattle.record.proofs.Slot.shape.Goals.{then-in_use, else-in_use+then-kind-from}

pub returns-else-kind-from : goal.returns-else-kind-from
unfolding slot_shape
returns-else-kind-from c = rw (← c.kind-kind.ensures, sym c.in_use.ensures ∙ c.if-in_use.false, ne_eqb _ _ (λ z. c.if-kind-from.false (z ∙ sym c.from-else-in_use.ensures)))

pub overflow_sub-from : goal.overflow_sub-from
overflow_sub-from c =
    elim c.if-in_use.branch [
      | then-in_use w ↦ omega (arith, w.from-is, w.from.ensures, w.name_length.type_inv)
      | else-in_use+then-kind-from w ↦ omega (arith, w.from-is)
    ]

pub zeros-requires : goal.zeros-requires
zeros-requires c = omega (arith, overflow_sub-from c)

pub returns : goal.returns
unfolding slot_shape
returns c =
    let a = c.args in
    let from = c.if-in_use.from in
    let len = get_or a.self.bytes.now (a.self.at + 39) 0 in
    let u = sym c.in_use.ensures in
    elim c.if-in_use.branch [
      | then-in_use w ↦
          let e : a.self.at + from ≡ a.self.at + 40 + len = omega (arith, w.from-is) in
          let f : 320 - from ≡ 280 - len = omega (arith, w.from-is) in
          rw (← c.kind-kind.ensures, u ∙ w.if-in_use.true) (rw (e, f) at c.zeros.ensures)
      | else-in_use+then-kind-from w ↦
          rw (← c.kind-kind.ensures, u ∙ w.if-in_use.false, eq-eqb _ _ (w.if-kind-from.true ∙ w.from-else-in_use.ensures)) (rw w.from-is at c.zeros.ensures)
    ]
