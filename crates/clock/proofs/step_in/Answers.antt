-- `clock::step_in` meets its contract: the distance ahead, and that less a cycle. Assumes nothing.
use Rattle.std.proofs.Common.{◌≡◌, ◌∙◌, w64}
use Rattle.model.proofs.ClockLaws.{ahead}
use Rattle.clock.proofs.StepLaws.{ahead-on, ahead-around, step-on, step_back}
use Rattle.clock.proofs.step_in.Goals as goal
use Rattle.clock.proofs.step_in.Goals.{Joined-from-to, then-from-to, else-from-to}

-- both ways to it
ahead-is : (c : Joined-from-to) → c.if-from-to.ahead ≡ ahead c.args.cycle c.args.from c.args.to
ahead-is c =
    elim c.if-from-to.branch [
      | then-from-to w ↦ w.ahead-is ∙ ahead-on c.args.cycle c.args.from c.args.to w.if-from-to.true
      | else-from-to w ↦ w.ahead-is ∙ ahead-around c.args.cycle c.args.from c.args.to w.if-from-to.false
    ]

pub returns-then-ahead-half : goal.returns-then-ahead-half
returns-then-ahead-half c =
    let r = c.requires in
    step-on w64 c.args.cycle c.args.half r.0 r.1 c.args.from c.args.to r.2 r.3 (ahead-is (goal.at.returns-then-ahead-half c).Joined-from-to) c.if-ahead-half.true

pub returns-else-ahead-half : goal.returns-else-ahead-half
returns-else-ahead-half c =
    let r = c.requires in
    step_back w64 c.args.cycle c.args.half r.0 r.1 c.args.from c.args.to r.2 r.3 (ahead-is (goal.at.returns-else-ahead-half c).Joined-from-to) c.if-ahead-half.false
