-- `roster::Lines::each_valid` meets its contract. Assumes nothing.
use Prim.Native.Nat.{◌*◌}
use mathlib.Core.Path.{refl}
use native.Mathlib.Omega.{arith}
use borrow.Author.Rules.{rules}
use borrow.Author.Tests.{tests}
use Rattle.model.specs.Lists.{every, up_to}
use Rattle.model.specs.Sound.{valid_line}
use Rattle.model.specs.Table.{read_line}
use Rattle.model.proofs.ListLaws.{every-next}
use Rattle.layout.specs.Shape.{lines_to}
use Rattle.roster.proofs.Chains.{all_is}
use Rattle.roster.proofs.Lines.each_valid.Goals as goal

pub returns : goal.returns
unfolding every up_to
returns c =
    let b = c.args.self.bytes.now in
    all_is 0 (λ i. every valid_line (lines_to b i)) (λ i. valid_line (read_line b (19 * i))) refl (λ i _. every-next i _ _) _ (omega arith) c.all.ensures.ran refl (λ x y q k. search (rules, tests))
