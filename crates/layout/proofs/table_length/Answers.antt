-- `layout::table_length` meets its contract. Assumes nothing.
use borrow.Author.Tests.{le-leb, lt-leb}
use Rattle.model.specs.Calls.{table_length}
use Rattle.layout.proofs.table_length.Goals as goal

pub returns-then-l-lt1 : goal.returns-then-l-lt1
unfolding table_length
returns-then-l-lt1 c = let l = c.args.l in rw (← c.requires.3, lt-leb 1 l.n c.if-l-lt1.true)

pub returns-then-l-gt-SLOTS_MOST : goal.returns-then-l-gt-SLOTS_MOST
unfolding table_length
returns-then-l-gt-SLOTS_MOST c =
    let l = c.args.l in
    rw (← c.requires.3, le-leb 1 l.n c.if-l-lt1.false, lt-leb l.n 64 c.if-l-gt-SLOTS_MOST.true)

pub returns : goal.returns
unfolding table_length
returns c =
    let l = c.args.l in
    rw (← c.requires.3, le-leb 1 l.n c.if-l-lt1.false, le-leb l.n 64 c.if-l-gt-SLOTS_MOST.false, ← c.requires.2)
