-- `sound::Table::has_room` meets its contract: there are no more entries than slots. Assumes nothing.
use Prim.Native.Nat.{◌+◌}
use mathlib.Core.Path.{sym}
use native.Mathlib.Omega.{arith}
use borrow.Author.Tests.{le-leb}
use Rattle.model.specs.Lists.{any}
use Rattle.layout.proofs.HeldLaws.{count_most}
use Rattle.holdings.specs.Slots.{held_in}
use Rattle.sound.proofs.Table.has_room.Goals as goal

pub returns-then-kept-eq0 : goal.returns-then-kept-eq0
returns-then-kept-eq0 c =
    let s = c.args.self.slots in
    rw (← c.reserve-kept.ensures.1, c.if-kept-eq0.true) (sym (le-leb (0 + held_in s any) s.n (omega (arith, count_most 0 s.bytes.now any s.n))))
