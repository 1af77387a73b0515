-- `roster::Lines::all_apart` meets its contract. Assumes nothing.
use Prim.Native.Nat.{◌*◌}
use mathlib.Core.Path.{refl}
use mathlib.Core.Bool.{not}
use native.Mathlib.Omega.{arith}
use borrow.Author.Rules.{rules}
use borrow.Author.Tests.{tests}
use Rattle.model.specs.Lists.{every, no_two, up_to}
use Rattle.model.specs.Table.{read_line}
use Rattle.model.specs.Sound.{same_address}
use Rattle.model.proofs.ListLaws.{no_two-next}
use Rattle.layout.specs.Shape.{lines_to}
use Rattle.roster.proofs.Chains.{all_is}
use Rattle.roster.proofs.Lines.all_apart.Goals as goal

pub returns : goal.returns
unfolding no_two up_to
returns c =
    let b = c.args.self.bytes.now in
    all_is 0 (λ i. no_two same_address (lines_to b i)) (λ i. every (λ l. not (same_address l (read_line b (19 * i)))) (lines_to b i)) refl (λ i _. no_two-next i _ _) _ (omega arith) c.all.ensures.ran refl (λ x y q k. search (rules, tests))
