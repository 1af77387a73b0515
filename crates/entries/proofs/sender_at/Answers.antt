-- `entries::sender_at` meets its contract: the address by its halves, and the port. Assumes nothing.
use Rattle.entries.specs.Reads.{entry_at}
use Rattle.entries.proofs.sender_at.Goals as goal

pub returns-clause-sender : goal.returns-clause-sender
unfolding entry_at
returns-clause-sender c =
    let halves = c.address.ensures.halves in
    rw (← halves.0, ← halves.1, ← c.port.ensures)
