-- `entries::find_answered` meets its contract. Assumes nothing.
use Rattle.std.proofs.Common.{rules}
use Rattle.entries.proofs.Laws as law
use Rattle.entries.proofs.find_answered.Goals as goal

pub returns : goal.returns
returns c = law.found-first _ _ _ _ c.first_that.ensures (λ k p. search rules) (λ f p. search rules)
