-- `sound::Table::holders_sound` meets its contract: an entry of the same address ends in the same byte. Assumes nothing.
use Prim.Native.Nat.{◌*◌}
use mathlib.Core.Path.{◌≡◌, refl, sym, ◌∙◌}
use mathlib.Core.Bool.{Bool, true, false}
use borrow.Author.Rules.{rules}
use Rattle.layout.specs.Held.{holding_at}
use Rattle.roster.specs.Lines.{lines_of}
use Rattle.sound.specs.Holders.{holder_sound, holders_sound}
use Rattle.sound.proofs.FirstLaws.{none-holds, all-holders}
use Rattle.sound.proofs.HolderLaws.{holder-no}
use Rattle.sound.proofs.Table.holders_sound.Goals as goal

pub each_passes-requires-clause-callable : goal.each_passes-requires-clause-callable
each_passes-requires-clause-callable c = λ from i l _ _ _ _ _ _. (l.upto, l.entry.within, none-holds c.args.self.slots from i l)

pub returns : goal.returns
returns c = go c.each_passes.result refl
  where
    go : (v : Bool) → c.each_passes.result ≡ v → c.each_passes.result ≡ holders_sound c.args.self.slots.bytes.now (lines_of c.args.self.lines) c.args.self.slots.n
    go true e =
        e ∙ sym (all-holders c.args.self.slots.bytes.now (lines_of c.args.self.lines) c.args.self.slots.n (λ i l u. let r = c.each_passes.ensures.passed e i (record { within = l; held = u }) in search rules))
    go false e =
        let r = c.each_passes.ensures.failed e in
        let z : holder_sound c.args.self.slots.bytes.now (lines_of c.args.self.lines) r.0 (holding_at 0 c.args.self.slots.bytes.now (320 * r.0)) ≡ false = search rules in
        e ∙ sym (holder-no c.args.self.slots.bytes.now r.0 r.2.held (lines_of c.args.self.lines) c.args.self.slots.n r.2.within z)
