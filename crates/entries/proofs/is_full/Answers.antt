-- `entries::is_full` meets its contract. Assumes nothing.
use Rattle.std.proofs.Common.{sym}
use Rattle.record.specs.Address.{address_of}
use Rattle.entries.proofs.Laws as law
use Rattle.entries.proofs.is_full.Goals as goal

pub returns-then-limit_of-held : goal.returns-then-limit_of-held
returns-then-limit_of-held c =
    let a = c.args in
    sym (law.full-limit a.lines.now a.slots (address_of a.address) c.listed-listed.result c.listed-listed.ensures c.held_by-held.ensures.1 c.limit_of.ensures c.if-limit_of-held.true)

pub returns-then-held-share_of : goal.returns-then-held-share_of
returns-then-held-share_of c =
    let a = c.args in
    sym (law.full-share a.lines.now a.slots (address_of a.address) c.listed-listed.result c.listed-listed.ensures c.held_by-held.ensures.1 c.limit_of.ensures c.if-limit_of-held.false
    c.share_of.ensures c.if-held-share_of.true)

pub returns : goal.returns
returns c =
    let a = c.args in
    sym (law.full-room a.lines.now a.slots (address_of a.address) c.listed-listed.result c.listed-listed.ensures c.held_by-held.ensures.1 c.limit_of.ensures c.if-limit_of-held.false
    c.share_of.ensures c.if-held-share_of.false c.held.ensures.1 c.reserve.ensures.1)
