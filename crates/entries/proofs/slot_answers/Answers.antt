-- `entries::slot_answers` meets its contract: number, span, and then whose it is. Assumes nothing.
use Rattle.std.proofs.Common.{◌≡◌, true, false, sym, ◌∙◌}
use mathlib.Core.Bool.{and-true, and-false}
use Rattle.model.proofs.ListLaws.{and_right}
use Rattle.model.specs.Rules.{numbered, holding}
use Rattle.model.specs.Table.{read_entry}
use Rattle.model.specs.Serve.{right_lease}
use Rattle.layout.specs.Held.{holding_at}
use Rattle.entries.specs.Reads.{sent}
use Rattle.entries.proofs.Laws as law
use Rattle.entries.proofs.slot_answers.Goals as goal

pub returns-then-not-has_number : goal.returns-then-not-has_number
unfolding holding_at
returns-then-not-has_number c =
    sym (law.has-unlikely _ _ c.args.slot.bytes.now c.args.slot.at (numbered c.args.number.0) (λ e. rw e) (sym c.has_number.ensures ∙ c.if-not-has_number.true))

pub returns-then-in_span : goal.returns-then-in_span
unfolding holding_at
returns-then-in_span c =
    let a = c.args in
    let here = sym c.has_number.ensures ∙ c.if-not-has_number.false in
    let right : right_lease (sent a.number.0 a.lease) (holding a.running (read_entry a.slot.bytes.now a.slot.at)) ≡ true =
    law.span-read a.slot.bytes.now a.slot.at a.running a.number.0 a.lease c.lease.ensures c.stamp.ensures c.age-age.ensures (sym c.if-in_span.true ∙ c.in_span.ensures) in
    let own : numbered a.number.0 (holding_at 0 a.slot.bytes.now a.slot.at) ≡ true = and_right _ _ here in
    c.entry_asks.ensures ∙ sym (law.has-likely _ _ a.slot.bytes.now a.slot.at (numbered a.number.0) here ∙ rw (right, own, and-true))

pub returns-else-in_span : goal.returns-else-in_span
unfolding holding_at
returns-else-in_span c =
    let a = c.args in
    let here = sym c.has_number.ensures ∙ c.if-not-has_number.false in
    let right : right_lease (sent a.number.0 a.lease) (holding a.running (read_entry a.slot.bytes.now a.slot.at)) ≡ false =
    law.span-read a.slot.bytes.now a.slot.at a.running a.number.0 a.lease c.lease.ensures c.stamp.ensures c.age-age.ensures (sym c.if-in_span.false ∙ c.in_span.ensures) in
    c.if-in_span.false ∙ sym (law.has-likely _ _ a.slot.bytes.now a.slot.at (numbered a.number.0) here ∙ rw (right, and-false))
