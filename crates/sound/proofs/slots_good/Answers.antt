-- `sound::slots_good` meets its contract. Assumes nothing.
use Prim.Native.Nat.{ℕ, ◌*◌}
use mathlib.Core.Path.{refl}
use mathlib.Core.Bool.{◌&&◌}
use native.Mathlib.Omega.{arith}
use borrow.Author.Rules.{rules}
use borrow.Author.Tests.{tests}
use Rattle.model.specs.Lists.{every}
use Rattle.model.specs.Sound.{valid_entry}
use Rattle.model.proofs.ListLaws.{swap}
use Rattle.layout.specs.Shape.{all, slot_shape}
use Rattle.layout.specs.Held.{held_to, ok_at}
use Rattle.layout.proofs.ShapeLaws.{all_none, all-next}
use Rattle.layout.proofs.HeldLaws.{held_none, every-next}
use Rattle.roster.proofs.Chains.{all_is}
use Rattle.sound.proofs.slots_good.Goals as goal

pub returns : goal.returns
unfolding every
returns c =
    let b = c.args.slots.bytes.now in
    let r = c.args.running in
    let p = λ (i : ℕ). slot_shape b (320 * i) in
    let v = λ (i : ℕ). ok_at r b valid_entry i in
    all_is 0 (λ i. all p i && every valid_entry (held_to r b i)) (λ i. p i && v i) (rw (all_none p, held_none)) (λ i _. rw (all-next p i, every-next r b i valid_entry) (swap (all p i) (p i) (every valid_entry (held_to r b i)) (v i))) _ (omega arith) c.all.ensures.ran refl (λ x y q k. search (rules, tests))
