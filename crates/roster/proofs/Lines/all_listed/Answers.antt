-- `roster::Lines::all_listed` meets its contract. Assumes nothing.
use Prim.Native.Nat.{ℕ, ◌*◌}
use mathlib.Core.Path.{refl}
use native.Mathlib.Omega.{arith}
use borrow.Author.Rules.{rules}
use borrow.Author.Tests.{tests}
use lib.Dec.{eqb}
use lib.ListN.{get_or}
use Rattle.layout.specs.Shape.{all}
use Rattle.layout.proofs.ShapeLaws.{all_none, all-next}
use Rattle.roster.proofs.Chains.{all_is}
use Rattle.roster.proofs.Lines.all_listed.Goals as goal

pub returns : goal.returns
returns c =
    let p = λ (i : ℕ). eqb (get_or c.args.self.bytes.now (19 * i) 0) 3 in
    all_is 0 (all p) p (all_none p) (λ i _. all-next p i) _ (omega arith) c.all.ensures.ran refl (λ x y q k. search (rules, tests))
