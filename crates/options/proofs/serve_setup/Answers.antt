-- `options::serve_setup` meets its contract: found, full or granted. Assumes nothing.
use Rattle.std.proofs.Common.{sym, ◌∙◌, arith}
use Rattle.options.proofs.OptionLaws as law
use Rattle.entries.specs.Asked.{question_asked}
use Rattle.options.proofs.serve_setup.Goals as goal
use Rattle.options.proofs.serve_setup.Goals.{After-slots_of}

on : (c : After-slots_of) → law.Formed c.args.t.now c.args.l.n
on c = law.formed-of c.args.l (λ j. grind arith) c.requires.0 c.requires.1

pub returns-in-Some : goal.returns-in-Some
returns-in-Some c =
    let t = on (goal.at.returns-in-Some c).After-slots_of in
    let w = law.found_first t c.slots_of.result c.slots_of.ensures _ c.find_asked.ensures c.in-Some.is in
    law.setup-found t c.args.asked.sender (question_asked c.args.asked) c.args.o c.args.r w c.running_count.ensures c.life_left-left.ensures c.served.ensures

pub returns-then-is_full : goal.returns-then-is_full
returns-then-is_full c =
    let t = on (goal.at.returns-then-is_full c).After-slots_of in
    let w = law.found_none t c.slots_of.result c.slots_of.ensures _ c.find_asked.ensures c.in_default.is in
    law.setup-full t c.args.asked.sender (question_asked c.args.asked) c.args.o c.args.r w (sym c.is_full.ensures ∙ c.if-is_full.true) c.served-then-is_full.ensures

pub returns : goal.returns
returns c =
    let t = on (goal.at.returns c).After-slots_of in
    let w = law.found_none t c.slots_of.result c.slots_of.ensures _ c.find_asked.ensures c.in_default.is in
    law.setup-grant t c.args.asked.sender (question_asked c.args.asked) c.args.o c.args.r w (sym c.is_full.ensures ∙ c.if-is_full.false) c.grant.ensures
