-- `entries::find_free` meets its contract: what the library's `find` gave is the first. Assumes nothing.
use Rattle.std.proofs.Common.{◌≡◌, ◌*◌, true, false, rules}
use Rattle.std.proofs.lemmas.Iterator.{first_from_Range}
use Rattle.model.specs.Serve.{is_free}
use Rattle.model.specs.Table.{read_slot}
use Rattle.entries.proofs.Laws as law
use Rattle.entries.proofs.find_free.Goals as goal

pub returns : goal.returns
returns c =
    let b = c.args.slots.bytes.now in
    law.within-first b c.args.slots.n is_free _
    (first_from_Range _ _ _ _ (λ i. true ≡ is_free (read_slot b (320 * i))) (λ i. false ≡ is_free (read_slot b (320 * i))) c.find.ensures.ran
    (λ i f p. search (rules, law.free-is)) (λ i f p. (search rules, search (rules, law.free-is))))
