-- `roster::Lines::apart` meets its contract. Assumes nothing.
use Prim.Native.Nat.{◌*◌}
use mathlib.Core.Path.{refl}
use mathlib.Core.Bool.{not}
use native.Mathlib.Omega.{arith}
use borrow.Author.Rules.{rules}
use borrow.Author.Tests.{tests}
use Rattle.model.specs.Lists.{every, up_to}
use Rattle.model.specs.Table.{read_line}
use Rattle.model.specs.Sound.{same_address}
use Rattle.model.proofs.ListLaws.{every-next}
use Rattle.layout.specs.Shape.{lines_to}
use Rattle.roster.proofs.Chains.{all_is}
use Rattle.roster.proofs.Lines.apart.Goals as goal

pub returns : goal.returns
unfolding every up_to read_line
returns c =
    let b = c.args.self.bytes.now in
    let m = read_line b (19 * c.args.i) in
    all_is 0 (λ i. every (λ l. not (same_address l m)) (lines_to b i)) (λ i. not (same_address (read_line b (19 * i)) m)) refl (λ i _. every-next i _ _) _ (omega arith) c.all.ensures.ran refl (λ x y q k. search (rules, tests))
