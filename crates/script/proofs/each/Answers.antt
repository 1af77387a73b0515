-- `script::each` meets its contract: the calls of the records passed are carried out, and their answers stand at the buffer's start. Assumes nothing.
use native.Mathlib.Omega.{arith}
use mathlib.Core.List.{[], ◌++◌}
use mathlib.Core.Path.{refl, ap}
use borrow.Author.Rules.{rules}
use lib.ListN.{length}
use Rattle.std.proofs.lemmas.Bool.{false≢true}
use Rattle.script.specs.Spelled.{call_at}
use Rattle.script.proofs.RanLaws.{carried_none, carried-both}
use Rattle.script.proofs.AnswerLaws.{passed-room}
use Rattle.script.proofs.SpelledLaws.{passed_none, passed-next, passed-all}
use Rattle.script.proofs.each.Goals as goal

pub loop-at-init : goal.loop-at-init
loop-at-init c = let a = c.args in (search rules, refl, refl, ([], passed_none a.s.now, carried_none a.t.now a.out.now 0))

pub carry_out-to-requires : goal.carry_out-to-requires
carry_out-to-requires c =
    let l = c.loop-at in
    let r = c.in-Some.record in
    omega (arith, passed-room c.args.s.now l.at l.invariant.3.0 r.list.now r.at l.invariant.3.1 c.in-Some.ensures.placed r.whole, l.invariant.3.2.end)

pub loop-at-preserved : goal.loop-at-preserved
loop-at-preserved c =
    let a = c.args in
    let s = a.s.now in
    let l = c.loop-at in
    let r = c.in-Some.record in
    let done = l.invariant.3.0 in
    let calls = call_at r.list.now r.at in
    let found = c.in-Some.ensures.placed in
    let fit = passed-room s l.at done r.list.now r.at l.invariant.3.1 found r.whole in
    let x = c.carry_out-to.ensures in (
      omega (arith, ap length c.in-Some.ensures.placed.0),
      search rules,
      search rules,
      (
        done ++ calls,
        rw c.next-at.ensures (passed-next s l.at done r.list.now r.at l.invariant.3.1 found r.whole),
        carried-both done calls a.t.now l.t _ a.out.now l.out _ 0 l.to _ l.invariant.3.2 x (omega (arith, x.end, fit, l.invariant.3.2.end)),
      ),
    )

pub returns : goal.returns
returns c =
    let l = c.loop-at in
    rw (passed-all c.args.s.now l.at l.invariant.3.0 l.invariant.3.1 (λ h. false≢true (c.in_default.ensures.whole.1 h))) l.invariant.3.2
