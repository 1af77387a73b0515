-- `entries::is_fresh` meets its contract: what the library's `any` gave is whether the number is used. Assumes nothing.
use Rattle.std.proofs.Common.{◌≡◌, ◌*◌, true, false, not, ap, rules, refl, ne_eqb, arith}
use Rattle.std.proofs.lemmas.Iterator.{cases_from_any, YieldsList-from_range}
use Rattle.model.specs.Rules.{numbered}
use Rattle.model.specs.Table.{read_slot}
use Rattle.model.specs.Serve.{has}
use Rattle.entries.proofs.Laws as law
use Rattle.entries.proofs.is_fresh.Goals as goal

pub returns-then-x-ne0 : goal.returns-then-x-ne0
returns-then-x-ne0 c =
    let b = c.args.slots.bytes.now in
    let p = numbered c.args.x.0 in
    rw (ne_eqb _ _ c.if-x-ne0.true)
    (ap not (law.any-used b c.args.slots.n p _
    (cases_from_any _ _ _ (λ i. true ≡ has 0 p (read_slot b (320 * i))) (λ i. false ≡ has 0 p (read_slot b (320 * i))) c.any.ensures.ran (YieldsList-from_range 0 c.args.slots.n c.args.slots.n refl (omega arith))
    (λ i f r. search (rules, law.has-told)) (λ i f r. (search rules, search (rules, law.has-told))))))
