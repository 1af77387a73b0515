-- The proof of `Cursor::question`. Assumes nothing.
use mathlib.Core.Path.{◌∙◌}
use Rattle.wire.proofs.Reading as law
use Rattle.wire.proofs.Cursor.question.Goals as goal

pub returns-in_err-len : goal.returns-in_err-len
returns-in_err-len c = let a = c.args in c.from_residual.ensures ∙ law.question-unnamed a.s.now a.self.at c.in_err-len.ensures

pub returns-in_err-qtype : goal.returns-in_err-qtype
returns-in_err-qtype c =
    let a = c.args in
    c.from_residual-in_err-qtype.ensures ∙ law.question-cut a.s.now a.self.at c.in_ok-len.ensures c.in_err-qtype.ensures

pub returns-in_err-qclass : goal.returns-in_err-qclass
returns-in_err-qclass c =
    let a = c.args in
    c.from_residual-in_err-qclass.ensures ∙ law.question-cut-later a.s.now a.self.at c.in_ok-len.ensures c.in_ok-qtype.ensures c.in_err-qclass.ensures

pub returns : goal.returns
returns c =
    let a = c.args in
    law.question-found a.s.now a.self.at c.in_ok-len.ensures c.in_ok-qtype.ensures c.in_ok-qclass.ensures
