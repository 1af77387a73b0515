-- `sound::Table::entry_beyond_share` meets its contract: the entries passed have another number and ask another question, and those of its address are counted. Assumes nothing.
use Prim.Native.Nat.{◌+◌, ◌*◌, ◌≤◌}
use mathlib.Core.Path.{◌≡◌, sym, ◌∙◌}
use mathlib.Core.Bool.{not, and-false}
use native.Mathlib.Omega.{arith}
use lib.ListN.{get_or}
use Rattle.model.specs.Lists.{every}
use Rattle.model.specs.Table.{read_entry}
use Rattle.model.specs.Rules.{numbered}
use Rattle.model.specs.Sound.{same_question}
use Rattle.layout.specs.Shape.{in_use}
use Rattle.layout.specs.Held.{holding_at}
use Rattle.layout.proofs.HeldLaws.{held_none, count-hit, count-miss, every-yes, every-no}
use Rattle.sound.proofs.PairLaws.{same_number, other-number, same_asked_lem, other-asked, other-holder}
use Rattle.sound.proofs.Table.entry_beyond_share.Goals as goal
use Rattle.sound.proofs.Table.entry_beyond_share.Goals.{then-has_holder+else-same_asked, else-has_holder}

pub loop-at-init : goal.loop-at-init
unfolding every
loop-at-init c = (0, omega arith, omega arith, omega arith, rw held_none, rw held_none, rw held_none)

pub returns-then-has_number : goal.returns-then-has_number
unfolding holding_at read_entry
returns-then-has_number c =
    let l = c.loop-at in
    let a = c.args in
    let t = a.self.slots.bytes.now in
    let x = rw (c.slot-own.ensures.0, c.slot-own.ensures.1) at c.number-number.ensures in
    let j = l.invariant.0 in
    let n = rw l.invariant.1 at (sym (rw c.slot-own.ensures.0 at c.has_number.ensures) ∙ c.if-has_number.true) in
    let s = same_number (in_use (get_or t (320 * j) 0)) (holding_at 0 t (320 * j)) c.number-number.result.0 n in
    rw (← x, every-no 0 t a.i j (omega (arith, l.invariant.1)) (λ h. not (numbered c.number-number.result.0 h)) s)

pub returns-then-same_asked : goal.returns-then-same_asked
unfolding holding_at read_entry
returns-then-same_asked c =
    let l = c.loop-at in
    let a = c.args in
    let t = a.self.slots.bytes.now in
    let j = l.invariant.0 in
    let u = in_use (get_or t (320 * j) 0) in
    let h = holding_at 0 t (320 * j) in
    let k = holding_at 0 t (320 * a.i) in
    let e = sym (rw (c.slot-own.ensures.0, c.slot-own.ensures.1) at c.address-address.ensures.number) in
    let x = rw l.invariant.1 at (sym (rw c.slot-own.ensures.0 at c.has_holder.ensures) ∙ c.if-has_holder.true) in
    let y = rw l.invariant.1 at (sym (rw (c.slot-own.ensures.0, c.slot-own.ensures.1) at c.same_asked.ensures) ∙ c.if-same_asked.true) in
    let s = same_asked_lem u h k _ e x y in
    rw (every-no 0 t a.i j (omega (arith, l.invariant.1)) (λ x. not (same_question x k)) s, and-false)

pub loop-at-preserved : goal.loop-at-preserved
unfolding holding_at read_entry
loop-at-preserved c =
    let l = c.loop-at in
    let a = c.args in
    let t = a.self.slots.bytes.now in
    let x = rw (c.slot-own.ensures.0, c.slot-own.ensures.1) at c.number-number.ensures in
    let j = l.invariant.0 in
    let q = l.invariant.1 in
    let u = in_use (get_or t (320 * j) 0) in
    let h = holding_at 0 t (320 * j) in
    let k = holding_at 0 t (320 * a.i) in
    let e = sym (rw (c.slot-own.ensures.0, c.slot-own.ensures.1) at c.address-address.ensures.number) in
    let b = rw q at (sym (rw c.slot-own.ensures.0 at c.has_holder.ensures)) in
    let o = other-number u h c.number-number.result.0 (rw q at (sym (rw c.slot-own.ensures.0 at c.has_number.ensures) ∙ c.if-has_number.false)) in
    let p = every-yes 0 t j (λ h. not (numbered c.number-number.result.0 h)) o l.invariant.4 in
    let next : l.at + 320 ≡ 320 * (j + 1) = omega (arith, q) in
    let below : j + 1 ≤ a.i = omega (arith, q) in
    elim c.if-has_holder.branch [
      | then-has_holder+else-same_asked w ↦
          let s = other-asked u h k _ e (b ∙ w.if-has_holder.true) (rw q at (sym (rw (c.slot-own.ensures.0, c.slot-own.ensures.1) at w.same_asked.ensures)) ∙ w.if-same_asked.false) in
          (j + 1, next, below, omega (arith, l.invariant.3, w.k-is), p, every-yes 0 t j _ s l.invariant.5, rw w.k-is (count-hit 0 t j _ l.k (b ∙ w.if-has_holder.true) l.invariant.6))
      | else-has_holder w ↦
          let s = other-holder u h k _ e (b ∙ w.if-has_holder.false) in
          (j + 1, next, below, omega (arith, l.invariant.3, w.k-is), p, every-yes 0 t j _ s l.invariant.5, rw w.k-is (count-miss 0 t j _ l.k (b ∙ w.if-has_holder.false) l.invariant.6))
    ]

pub returns : goal.returns
unfolding holding_at read_entry
returns c =
    let l = c.loop-at in
    let a = c.args in
    let x = rw (c.slot-own.ensures.0, c.slot-own.ensures.1) at c.number-number.ensures in
    let f = sym (rw (c.slot-own.ensures.0, c.slot-own.ensures.1) at c.address-address.ensures.number) in
    let e : l.invariant.0 ≡ a.i = omega (arith, l.invariant.1, l.invariant.2) in
    let n = rw e at l.invariant.4 in
    let q = rw e at l.invariant.5 in
    let k = rw e at l.invariant.6 in
    rw (← x, n, q, f, ← k) c.address_beyond_share.ensures
