-- `sound::Table::number_apart` meets its contract. Assumes nothing.
use Prim.Native.Nat.{ℕ, ◌*◌}
use mathlib.Core.Path.{refl, ap, ◌∙◌}
use mathlib.Core.Bool.{Bool, not, ◌&&◌}
use native.Mathlib.Omega.{arith}
use borrow.Author.Rules.{rules}
use borrow.Author.Tests.{tests}
use lib.ListN.{get_or}
use Rattle.model.specs.Lists.{every}
use Rattle.model.specs.Table.{read_entry}
use Rattle.model.specs.Rules.{numbered}
use Rattle.layout.specs.Shape.{in_use}
use Rattle.layout.specs.Held.{holding_at, held_to}
use Rattle.layout.proofs.HeldLaws.{every-next}
use Rattle.roster.proofs.Chains.{all_is}
use Rattle.sound.proofs.PairLaws.{unless}
use Rattle.sound.proofs.Table.number_apart.Goals as goal

pub returns : goal.returns
unfolding holding_at read_entry
returns c =
    let b = c.args.self.slots.bytes.now in
    let x = c.number-number.result.0 in
    let e = rw (c.slot.ensures.0, c.slot.ensures.1) at c.number-number.ensures in
    let held = λ (j : ℕ). in_use (get_or b (320 * j) 0) in
    let same = λ (j : ℕ). numbered x (holding_at 0 b (320 * j)) in
    let fold = λ (j : ℕ). every (λ h. not (numbered x h)) (held_to 0 b j) in
    rw (← e) (all_is c.args.from fold (λ j. not (held j && same j)) (rw e c.requires.2) (λ j _. every-next 0 b j (λ h. not (numbered x h)) ∙ ap (λ (v : Bool). fold j && v) (unless (held j) (same j))) _ (omega arith) c.all.ensures.ran refl (λ x y q k. search (rules, tests)))
