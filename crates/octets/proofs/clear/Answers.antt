-- The proof of `clear`. Assumes nothing.
use Prim.Native.Nat.{ℕ}
use native.Mathlib.Omega.{arith}
use mathlib.Core.Path.{refl, ap, ◌∙◌}
use lib.ListN.{length-take, length-drop, replicate}
use Rattle.model.proofs.NumberLaws.{lent_is}
use Rattle.octets.proofs.clear.Goals as goal

pub returns : goal.returns
returns c = lent_is _ c.args.n refl (c.fill.ensures.after (λ y e. e) ∙ ap (λ (k : ℕ). replicate k 0) (simp (length-take, length-drop) (omega arith)))
