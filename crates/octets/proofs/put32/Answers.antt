-- The proof of `put32`. Assumes nothing.
use mathlib.Core.Path.{refl, ◌∙◌}
use Rattle.model.proofs.NumberLaws.{lent_is}
use Rattle.octets.proofs.Conversions.{high-first-is}
use Rattle.octets.proofs.put32.Goals as goal

pub returns : goal.returns
returns c = lent_is _ 4 refl (c.copy_from_slice.ensures.after ∙ c.to_be_bytes.ensures ∙ high-first-is 4 c.args.x)
