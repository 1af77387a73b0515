-- `roster::Lines::share_of` meets its contract: the first line of the address decides. Assumes nothing.
use mathlib.Core.Path.{sym}
use Rattle.model.specs.Table.{read_line}
use Rattle.layout.proofs.LineLaws.{share-none, share-hit}
use Rattle.roster.proofs.Lines.share_of.Goals as goal

pub returns-in-Some : goal.returns-in-Some
unfolding read_line
returns-in-Some c =
    let h = c.in-Some.ensures in
    rw (c.from.ensures, c.share.ensures, c.line.ensures.0, c.line.ensures.1) (sym (share-hit _ _ c.args.self.count c.in-Some.i h.within h.earlier h.here))

pub returns-in-None : goal.returns-in-None
returns-in-None c = sym (share-none _ _ c.in-None.ensures)
