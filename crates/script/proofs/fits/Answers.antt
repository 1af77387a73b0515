-- `script::fits` meets its contract: the records passed spell calls whose answers take what is gone of the room. Assumes nothing.
use native.Mathlib.Omega.{arith}
use mathlib.Core.List.{[], ◌++◌}
use mathlib.Core.Path.{sym, ap}
use borrow.Author.Tests.{le-leb, lt-leb}
use borrow.Author.Rules.{rules}
use lib.ListN.{length}
use Rattle.std.proofs.lemmas.Bool.{false≢true}
use Rattle.script.specs.Answers.{answers_length}
use Rattle.script.specs.Spelled.{call_at, calls_in}
use Rattle.script.proofs.AnswerLaws.{answers-none, answers-both, passed-room}
use Rattle.script.proofs.SpelledLaws.{passed_none, passed-next, passed-all}
use Rattle.script.proofs.fits.Goals as goal

pub loop-at-init : goal.loop-at-init
loop-at-init c = (search rules, ([], passed_none c.args.s.now, rw answers-none (omega arith)))

pub returns-then-left-n : goal.returns-then-left-n
returns-then-left-n c =
    let a = c.args in
    let l = c.loop-at in
    let r = c.in-Some.record in
    let h = passed-room a.s.now l.at l.invariant.1.0 r.list.now r.at l.invariant.1.1 c.in-Some.ensures.placed r.whole in
    sym (lt-leb (answers_length (calls_in a.s.now)) a.size (omega (arith, h, l.invariant.1.2)))

pub loop-at-preserved : goal.loop-at-preserved
loop-at-preserved c =
    let a = c.args in
    let l = c.loop-at in
    let r = c.in-Some.record in
    let calls = call_at r.list.now r.at in (
      omega (arith, ap length c.in-Some.ensures.placed.0),
      (
        l.invariant.1.0 ++ calls,
        rw c.next-at.ensures (passed-next a.s.now l.at l.invariant.1.0 r.list.now r.at l.invariant.1.1 c.in-Some.ensures.placed r.whole),
        rw (answers-both l.invariant.1.0 calls) (omega (arith, l.invariant.1.2)),
      ),
    )

pub returns : goal.returns
returns c =
    let a = c.args in
    let l = c.loop-at in
    let e = passed-all a.s.now l.at l.invariant.1.0 l.invariant.1.1 (λ h. false≢true (c.in_default.ensures.whole.1 h)) in
    rw e (sym (le-leb (answers_length l.invariant.1.0) a.size (omega (arith, l.invariant.1.2))))
