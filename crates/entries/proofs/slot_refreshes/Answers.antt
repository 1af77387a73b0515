-- `entries::slot_refreshes` meets its contract: the number, the state, and then whose it is. Assumes nothing.
use Rattle.std.proofs.Common.{◌≡◌, true, false, sym, ◌∙◌, inl, inr}
use mathlib.Core.Bool.{and-false}
use Rattle.model.proofs.ListLaws.{and_right}
use Rattle.model.specs.Rules.{numbered}
use Rattle.model.specs.Table.{read_entry}
use Rattle.layout.specs.Held.{holding_at}
use Rattle.record.specs.declared.State.TheVariants.{Free, Pending, Established}
use Rattle.entries.proofs.Laws as law
use Rattle.entries.proofs.slot_refreshes.Goals as goal

pub returns-then-not-has_number : goal.returns-then-not-has_number
unfolding holding_at
returns-then-not-has_number c =
    let a = c.args in
    sym (law.has-unlikely _ _ a.slot.bytes.now a.slot.at (numbered a.number.0) (λ e. rw (e, and-false)) (sym c.has_number.ensures ∙ c.if-not-has_number.true))

pub returns-in-Free : goal.returns-in-Free
unfolding holding_at
returns-in-Free c =
    let a = c.args in
    let e : (read_entry a.slot.bytes.now a.slot.at).established ≡ false =
    elim c.in-Free.is [
      | inl f ↦ law.state-established a.slot.bytes.now a.slot.at c.kind.ensures c.from.ensures Free f
      | inr f ↦ law.state-established a.slot.bytes.now a.slot.at c.kind.ensures c.from.ensures Pending f
    ] in
    sym (law.has-likely _ _ a.slot.bytes.now a.slot.at (numbered a.number.0) (sym c.has_number.ensures ∙ c.if-not-has_number.false) ∙ rw e)

pub returns-in-Established : goal.returns-in-Established
unfolding holding_at
returns-in-Established c =
    let a = c.args in
    let here = sym c.has_number.ensures ∙ c.if-not-has_number.false in
    let own : numbered a.number.0 (holding_at 0 a.slot.bytes.now a.slot.at) ≡ true = and_right _ _ here in
    let e = law.state-established a.slot.bytes.now a.slot.at c.kind.ensures c.from.ensures Established c.in-Established.is in
    c.entry_asks.ensures ∙ sym (law.has-likely _ _ a.slot.bytes.now a.slot.at (numbered a.number.0) here ∙ rw (e, own))
