-- The proof of `Cursor::name`. Assumes nothing.
use borrow.Author.Rules.{rules}
use native.Mathlib.Omega.{arith}
use mathlib.Core.Path.{◌∙◌}
use Rattle.wire.proofs.Names as law
use Rattle.wire.proofs.Cursor.name.Goals as goal

pub loop-c-init : goal.loop-c-init
loop-c-init c = (search rules, omega arith, law.name-start c.args.s.now c.args.self.at)

pub loop-c-preserved : goal.loop-c-preserved
loop-c-preserved c =
    let i = c.loop-c in
    let a = c.args in
    let g = law.after a.s.now a.self.at i.c.at i.invariant.0 (rw c.in-Label.is at c.in_ok-next.ensures) in
    (omega arith, omega arith, i.invariant.2 ∙ g.2)

pub returns-in-Last : goal.returns-in-Last
returns-in-Last c =
    let i = c.loop-c in
    let a = c.args in
    let g = law.after a.s.now a.self.at i.c.at i.invariant.0 (rw c.in-Last.is at c.in_ok-next.ensures) in
    law.name-found a.s.now a.self.at i.c i.invariant.2 c.in-Last.next i.invariant.0 (omega arith) g.0 g.1

pub returns-in_err-next : goal.returns-in_err-next
returns-in_err-next c =
    let i = c.loop-c in
    let a = c.args in
    c.from_residual.ensures
    ∙ law.name-bad a.s.now a.self.at i.c i.invariant.2 (law.after a.s.now a.self.at i.c.at i.invariant.0 c.in_err-next.ensures)

pub returns : goal.returns
returns c =
    let i = c.loop-c in
    let a = c.args in
    law.name-long a.s.now a.self.at i.c i.invariant.2 (omega arith)
