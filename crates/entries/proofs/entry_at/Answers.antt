-- `entries::entry_at` meets its contract: the fields as they were read. Assumes nothing.
use Rattle.entries.specs.Reads.{entry_at}
use Rattle.entries.proofs.entry_at.Goals as goal

pub returns : goal.returns
unfolding entry_at
returns c =
    rw (c.sender_at.ensures.sender, ← c.kind.ensures, ← c.from.ensures, ← c.number.ensures, ← c.lease.ensures, ← c.stamp.ensures, ← c.qtype.ensures, ← c.qclass.ensures, ← c.name_length.ensures)
