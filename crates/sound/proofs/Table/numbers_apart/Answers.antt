-- `sound::Table::numbers_apart` meets its contract: an entry of the same number ends in the same byte. Assumes nothing.
use Prim.Native.Nat.{◌*◌}
use mathlib.Core.Path.{◌≡◌, refl, sym, ◌∙◌}
use mathlib.Core.Bool.{Bool, true, false, not}
use Rattle.model.specs.Lists.{every, no_two}
use Rattle.model.specs.Sound.{same_number}
use Rattle.layout.specs.Held.{holding_at, held_to}
use Rattle.model.specs.Rules.{numbered}
use borrow.Author.Rules.{rules}
use Rattle.sound.proofs.FirstLaws.{none-numbered, all-numbers}
use Rattle.sound.proofs.HolderLaws.{numbers-no}
use Rattle.sound.proofs.Table.numbers_apart.Goals as goal

pub each_passes-requires-clause-callable : goal.each_passes-requires-clause-callable
each_passes-requires-clause-callable c = λ from i l _ _ _ _ _ _. (l.upto, l.entry.within, none-numbered c.args.self.slots from i l)

pub returns : goal.returns
returns c = go c.each_passes.result refl
  where
    go : (v : Bool) → c.each_passes.result ≡ v → c.each_passes.result ≡ no_two same_number (held_to 0 c.args.self.slots.bytes.now c.args.self.slots.n)
    go true e = e ∙ sym (all-numbers c.args.self.slots.bytes.now c.args.self.slots.n (λ i l u. let r = c.each_passes.ensures.passed e i (record { within = l; held = u }) in search rules))
    go false e =
        let r = c.each_passes.ensures.failed e in
        let z : every (λ h. not (numbered (holding_at 0 c.args.self.slots.bytes.now (320 * r.0)).number h)) (held_to 0 c.args.self.slots.bytes.now r.0) ≡ false = search rules in
        e ∙ sym (numbers-no c.args.self.slots.bytes.now r.0 r.2.held _ refl c.args.self.slots.n r.2.within z)
