-- `script::run` meets its contract. Assumes nothing.
use native.Mathlib.Omega.{arith}
use mathlib.Core.Path.{sym, ◌∙◌}
use Rattle.script.proofs.RanLaws.{runs-all}
use Rattle.script.proofs.run.Goals as goal

pub returns-then-fits : goal.returns-then-fits
returns-then-fits c = runs-all c.args.script.now _ _ _ _ _ (λ i. omega (arith, c.type_inv.script i)) (sym c.fits.ensures ∙ c.if-fits.true) c.each.ensures
