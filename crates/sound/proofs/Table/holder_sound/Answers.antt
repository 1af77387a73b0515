-- `sound::Table::holder_sound` meets its contract: the entries passed ask another question than the one at c, and those of its address are counted. Assumes nothing.
use Prim.Native.Nat.{◌*◌}
use mathlib.Core.Path.{◌≡◌, sym, ◌∙◌}
use mathlib.Core.Bool.{not}
use native.Mathlib.Omega.{arith}
use borrow.Author.Rules.{rules}
use lib.ListN.{get_or}
use Rattle.model.specs.Table.{read_entry}
use Rattle.model.specs.Rules.{held_by}
use Rattle.model.specs.Sound.{same_question}
use Rattle.model.proofs.ListLaws.{every-not}
use Rattle.layout.specs.Shape.{in_use}
use Rattle.layout.specs.Held.{holding_at}
use Rattle.layout.proofs.HeldLaws.{count-hit, count-miss, every-yes, every-no}
use Rattle.sound.proofs.PairLaws.{same_asked_lem, other-asked, other-holder, none-asks}
use Rattle.sound.proofs.Table.holder_sound.Goals as goal
use Rattle.sound.proofs.Table.holder_sound.Goals.{then-has_holder+else-same_asked, else-has_holder}

pub loop-j-init : goal.loop-j-init
unfolding holding_at read_entry
loop-j-init c =
    let a = c.args in
    let k = holding_at 0 a.self.slots.bytes.now (320 * a.i) in
    let e = sym (rw (c.slot-own.ensures.0, c.slot-own.ensures.1) at c.address-address.ensures.number) in
    let n = c.requires.2 in
    (search rules, search rules, none-asks k _ n, rw e at (sym (every-not (held_by k.address) _ n)))

pub returns-then-same_asked : goal.returns-then-same_asked
unfolding holding_at read_entry
returns-then-same_asked c =
    let l = c.loop-j in
    let a = c.args in
    let u = in_use (get_or a.self.slots.bytes.now (320 * l.j) 0) in
    let h = holding_at 0 a.self.slots.bytes.now (320 * l.j) in
    let k = holding_at 0 a.self.slots.bytes.now (320 * a.i) in
    let e = sym (rw (c.slot-own.ensures.0, c.slot-own.ensures.1) at c.address-address.ensures.number) in
    let s = same_asked_lem u h k _ e (sym (rw (c.slot-slot.ensures.0, c.slot-slot.ensures.1) at c.has_holder.ensures) ∙ c.if-has_holder.true) (sym (rw (c.slot-slot.ensures.0, c.slot-slot.ensures.1, c.slot-own.ensures.1) at c.same_asked.ensures) ∙ c.if-same_asked.true) in
    rw (every-no 0 a.self.slots.bytes.now a.i l.j (omega arith) (λ x. not (same_question x k)) s)

pub loop-j-preserved : goal.loop-j-preserved
unfolding holding_at read_entry
loop-j-preserved c =
    let l = c.loop-j in
    let a = c.args in
    let u = in_use (get_or a.self.slots.bytes.now (320 * l.j) 0) in
    let h = holding_at 0 a.self.slots.bytes.now (320 * l.j) in
    let k = holding_at 0 a.self.slots.bytes.now (320 * a.i) in
    let e = sym (rw (c.slot-own.ensures.0, c.slot-own.ensures.1) at c.address-address.ensures.number) in
    let b = sym (rw (c.slot-slot.ensures.0, c.slot-slot.ensures.1) at c.has_holder.ensures) in
    elim c.if-has_holder.branch [
      | then-has_holder+else-same_asked w ↦
          let s = other-asked u h k _ e (b ∙ w.if-has_holder.true) (sym (rw (c.slot-slot.ensures.0, c.slot-slot.ensures.1, c.slot-own.ensures.1) at w.same_asked.ensures) ∙ w.if-same_asked.false) in
          (omega arith, omega arith, every-yes 0 _ l.j _ s l.invariant.2, rw w.k-is (count-hit 0 _ l.j _ l.k (b ∙ w.if-has_holder.true) l.invariant.3))
      | else-has_holder w ↦
          let s = other-holder u h k _ e (b ∙ w.if-has_holder.false) in
          (omega arith, omega arith, every-yes 0 _ l.j _ s l.invariant.2, rw w.k-is (count-miss 0 _ l.j _ l.k (b ∙ w.if-has_holder.false) l.invariant.3))
    ]

pub returns : goal.returns
unfolding holding_at read_entry
returns c =
    let l = c.loop-j in
    let a = c.args in
    let f = sym (rw (c.slot-own.ensures.0, c.slot-own.ensures.1) at c.address-address.ensures.number) in
    let e : l.j ≡ a.i = omega arith in
    rw (rw e at l.invariant.2, f, ← (rw e at l.invariant.3)) c.may_add.ensures
