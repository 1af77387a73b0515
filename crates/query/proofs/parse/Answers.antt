-- The proof of `parse`. Assumes nothing.
use mathlib.Core.Path.{◌∙◌}
use borrow.Author.Tests.{eq-eqb, ne_eqb}
use Rattle.query.specs.Whole.{Reads}
use Rattle.query.proofs.Handed.{handed-on}
use Rattle.query.proofs.ParseLaws as law
use Rattle.query.proofs.parse.Goals as goal
use Rattle.query.proofs.parse.Goals.{then-o-h, else-o-h}

pub returns-in_err-h : goal.returns-in_err-h
returns-in_err-h c =
    let r = c.from_residual in
    handed-on (Reads c.args.d.now) r.result r.ensures.1 (law.header-refused c.args.d.now c.in_err-h.field-0.0 c.in_err-h.ensures)

pub returns-in_err-q : goal.returns-in_err-q
returns-in_err-q c =
    let r = c.from_residual-in_err-q in
    handed-on (Reads c.args.d.now) r.result r.ensures.1 (law.questions-refused c.args.d.now c.in_ok-h.ensures c.in_err-q.field-0.0 c.in_err-q.ensures)

pub returns-in_err-first : goal.returns-in_err-first
returns-in_err-first c =
    let r = c.from_residual-in_err-first in
    handed-on (Reads c.args.d.now) r.result r.ensures.1
    (law.opt-refused c.args.d.now c.in_ok-h.ensures c.in_ok-q.ensures c.in_err-first.field-0.0 c.in_err-first.ensures)

pub returns-in_err-o : goal.returns-in_err-o
returns-in_err-o c =
    let r = c.from_residual-in_err-o in
    handed-on (Reads c.args.d.now) r.result r.ensures.1
    (law.options-refused c.args.d.now c.in_ok-h.ensures c.in_ok-q.ensures c.in_ok-first.ensures c.in_err-o.field-0.0 c.in_err-o.ensures)

pub returns-then-o-eq0 : goal.returns-then-o-eq0
returns-then-o-eq0 c = law.none-refused c.args.d.now c.in_ok-h.ensures c.in_ok-q.ensures c.in_ok-first.ensures c.in_ok-o.ensures c.if-o-eq0.true

pub returns : goal.returns
returns c =
    law.reads c.args.d.now c.in_ok-h.ensures c.in_ok-q.ensures c.in_ok-first.ensures c.in_ok-o.ensures c.if-o-eq0.false _
    (elim c.if-o-h.branch [
      | then-o-h w ↦ w.then_some-is ∙ rw (eq-eqb _ _ w.if-o-h.true)
      | else-o-h w ↦ w.then_some-is ∙ rw (ne_eqb _ _ w.if-o-h.false)
    ])
    _ c.then_some.ensures
