-- `options::serve_response` meets its contract: found or not. Assumes nothing.
use Rattle.std.proofs.Common.{arith}
use Rattle.layout.proofs.PartLaws.{tail_written}
use Rattle.options.proofs.OptionLaws as law
use Rattle.entries.specs.Asked.{question_asked}
use Rattle.options.proofs.serve_response.Goals as goal
use Rattle.options.proofs.serve_response.Goals.{After-slots_of-slots}

on : (c : After-slots_of-slots) → law.Formed c.args.t.now c.args.l.n
on c = law.formed-of c.args.l (λ j. grind arith) c.requires.0 c.requires.1

pub running_count-running-requires : goal.running_count-running-requires
running_count-running-requires c = let s = (law.formed-of c.args.l (λ j. grind arith) c.requires.0 c.requires.1).size in (c.requires.1, omega arith)

pub returns-in_default : goal.returns-in_default
returns-in_default c =
    let t = on (goal.at.returns-in_default c).After-slots_of-slots in
    let w = law.found_none t c.slots_of-slots.result c.slots_of-slots.ensures _ c.find_answered.ensures c.in_default.is in
    law.response-none t c.args.asked.sender (question_asked c.args.asked) c.args.o c.running_count-running.ensures w c.served.ensures

pub returns : goal.returns
returns c =
    let t = on (goal.at.returns c).After-slots_of-slots in
    let w = law.found_first t c.slots_of-slots.result c.slots_of-slots.ensures _ c.find_answered.ensures c.in-Some.is in
    law.response-found t c.args.asked.sender (question_asked c.args.asked) c.args.o c.running_count-running.ensures w c.life_left-left.ensures (tail_written c.args.t.now _ 1 _ c.requires.1.2 c.establish_at.ensures) c.served-2.ensures
