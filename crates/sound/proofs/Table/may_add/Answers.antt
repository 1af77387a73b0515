-- `sound::Table::may_add` meets its contract: every limit is 1 or more, and is looked up only for a second entry. Assumes nothing.
use Prim.Native.Nat.{◌+◌, ◌≤◌}
use native.Mathlib.Omega.{arith}
use borrow.Author.Tests.{le-leb, eq-eqb}
use Rattle.model.specs.Rules.{limit_of}
use Rattle.layout.proofs.LineLaws.{limit-min}
use Rattle.record.specs.Address.{address_of}
use Rattle.roster.specs.Lines.{lines_of}
use Rattle.sound.proofs.Table.may_add.Goals as goal

pub returns-then-k-eq0 : goal.returns-then-k-eq0
returns-then-k-eq0 c =
    let a = c.args in
    let ls = lines_of a.self.lines in
    let x = address_of a.address in
    let m : 1 ≤ limit_of ls x = limit-min ls x a.self.valid in
    rw (eq-eqb a.k 0 c.if-k-eq0.true, le-leb (a.k + 1) (limit_of ls x) (omega arith))
