-- `roster::Lines::limit_of` meets its contract: the first line of the address decides. Assumes nothing.
use mathlib.Core.Path.{sym, ◌∙◌}
use Rattle.model.specs.Table.{read_line}
use Rattle.layout.proofs.LineLaws.{limit-none, limit-hit}
use Rattle.roster.proofs.Lines.limit_of.Goals as goal

pub returns-in-Some : goal.returns-in-Some
unfolding read_line
returns-in-Some c =
    let h = c.in-Some.ensures in
    rw (c.from.ensures, c.limit.ensures, c.line.ensures.0, c.line.ensures.1) (sym (limit-hit _ _ c.args.self.count c.in-Some.i h.within h.earlier h.here))

pub returns-in-None : goal.returns-in-None
returns-in-None c = c.from-in-None.ensures ∙ sym (limit-none _ _ c.in-None.ensures)
