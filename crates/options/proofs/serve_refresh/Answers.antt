-- `options::serve_refresh` meets its contract: found and ended, found and renewed, or not found. Assumes nothing.
use Rattle.std.proofs.Common.{arith}
use Rattle.layout.proofs.PartLaws.{tail_written}
use Rattle.options.proofs.OptionLaws as law
use Rattle.entries.specs.Asked.{question_asked}
use Rattle.options.proofs.serve_refresh.Goals as goal
use Rattle.options.proofs.serve_refresh.Goals.{After-slots_of}

on : (c : After-slots_of) → law.Formed c.args.t.now c.args.l.n
on c = law.formed-of c.args.l (λ j. grind arith) c.requires.0 c.requires.1

pub returns-in_default : goal.returns-in_default
returns-in_default c =
    let t = on (goal.at.returns-in_default c).After-slots_of in
    let w = law.found_none t c.slots_of.result c.slots_of.ensures _ c.find_refreshed.ensures c.in_default.is in
    law.refresh-none t c.args.asked.sender (question_asked c.args.asked) c.args.o w c.served.ensures

pub returns-then-o-eq0 : goal.returns-then-o-eq0
returns-then-o-eq0 c =
    let t = on (goal.at.returns-then-o-eq0 c).After-slots_of in
    let w = law.found_first t c.slots_of.result c.slots_of.ensures _ c.find_refreshed.ensures c.in-Some.is in
    law.refresh-end t c.args.asked.sender (question_asked c.args.asked) c.args.o w c.if-o-eq0.true (tail_written c.args.t.now _ 320 _ c.requires.1.2 c.end_entry.ensures) c.served-then-o-eq0.ensures

pub returns : goal.returns
returns c =
    let t = on (goal.at.returns c).After-slots_of in
    let w = law.found_first t c.slots_of.result c.slots_of.ensures _ c.find_refreshed.ensures c.in-Some.is in
    law.refresh-renew t c.args.asked.sender (question_asked c.args.asked) c.args.o w c.if-o-eq0.false c.granted_lease-lease.ensures c.running_count-stamp.ensures (tail_written c.args.t.now _ 8 _ c.requires.1.2 c.renew_at.ensures) c.served-2.ensures
