-- `sound::Table::address_beyond_share` meets its contract: the first line of the address decides. Assumes nothing.
use Rattle.model.specs.Table.{read_line}
use Rattle.layout.proofs.LineLaws.{limit-none, limit-hit, share-none, share-hit}
use Rattle.sound.proofs.Table.address_beyond_share.Goals as goal

pub returns-in-Some : goal.returns-in-Some
unfolding read_line
returns-in-Some c =
    let n = c.args.self.lines.count in
    let i = c.in-Some.i in
    let h = c.in-Some.ensures in
    rw (share-hit _ _ n i h.within h.earlier h.here, limit-hit _ _ n i h.within h.earlier h.here) (rw (c.share.ensures, c.limit.ensures, c.line-line.ensures.0, c.line-line.ensures.1) at c.beyond_share.ensures)

pub returns-in-None : goal.returns-in-None
returns-in-None c = rw (share-none _ _ c.in-None.ensures, limit-none _ _ c.in-None.ensures) c.beyond_share-in-None.ensures
