-- `record::Line::valid` meets its contract: one test after the other. Assumes nothing.
use borrow.Author.Tests.{le-leb, lt-leb}
use Rattle.model.specs.Table.{read_line}
use Rattle.record.proofs.Line.valid.Goals as goal

pub returns-then-share-limit : goal.returns-then-share-limit
unfolding read_line
returns-then-share-limit c = rw (← c.share-share.ensures, ← c.limit-limit.ensures, lt-leb _ _ c.if-share-limit.true)

pub returns-then-limit-lt1 : goal.returns-then-limit-lt1
unfolding read_line
returns-then-limit-lt1 c = rw (← c.share-share.ensures, ← c.limit-limit.ensures, le-leb _ _ c.if-share-limit.false, lt-leb _ _ c.if-limit-lt1.true)

pub returns : goal.returns
unfolding read_line
returns c = rw (← c.share-share.ensures, ← c.limit-limit.ensures, le-leb _ _ c.if-share-limit.false, le-leb _ _ c.if-limit-lt1.false)
