-- `record::in_use` meets its contract: by the state. Assumes nothing.
use Rattle.std.proofs.Common.{inl, inr}
use mathlib.Core.Path.{◌≡◌, sym, ap, ◌∙◌}
use mathlib.Core.Bool.{true}
use Rattle.record.specs.State.{has_entry}
use Rattle.record.proofs.StateLaws.{in-use-is}
use Rattle.record.proofs.in_use.Goals as goal

pub returns-in-Free : goal.returns-in-Free
returns-in-Free c = sym (sym (in-use-is c.args.kind) ∙ ap has_entry (sym c.from.ensures ∙ c.in-Free.is))

pub returns-in-Pending : goal.returns-in-Pending
returns-in-Pending c =
    let f : has_entry c.from.result ≡ true = elim c.in-Pending.is [ inl e ↦ ap has_entry e | inr e ↦ ap has_entry e ] in
    sym (sym (in-use-is c.args.kind) ∙ ap has_entry (sym c.from.ensures) ∙ f)
