-- `script::carry_out` meets its contract. Assumes nothing.
use Prim.Native.Nat.{◌+◌}
use native.Mathlib.Omega.{arith}
use mathlib.Core.Path.{◌≡◌, ◌∙◌}
use lib.ListN.{length, replicate, length-take, length-drop}
use borrow.Author.Rules.{rules}
use Rattle.model.specs.Meets.{Makes, Ticks, Serves, model}
use Rattle.script.specs.Spelled.{room_at, making_at, ticking_at, serving_at}
use Rattle.script.proofs.RanLaws.{carried_none, carried-made, carried-ticked, carried-served, reply-lent}
use Rattle.script.proofs.SpelledLaws.{spelled-by}
use Rattle.script.proofs.AnswerLaws.{length-made, length-ticked, length-served}
use Rattle.script.proofs.carry_out.Goals as goal
use Rattle.script.proofs.carry_out.Goals.{in-Make, in-Tick, in-Serve}

pub returns-in_default : goal.returns-in_default
returns-in_default c = let a = c.args in rw c.in_default.ensures (carried_none a.t.now a.out.now a.to)

pub slice_bounds-serve-count : goal.slice_bounds-serve-count
slice_bounds-serve-count c = omega (arith, length-served _ _ (spelled-by _ _ _ _ c.in-Some.ensures c.in-Serve.is))

pub slice_bounds-serve-start : goal.slice_bounds-serve-start
slice_bounds-serve-start c =
    let e = length-served _ _ (spelled-by _ _ _ _ c.in-Some.ensures c.in-Serve.is) in
    search rules

pub serve-result-requires : goal.serve-result-requires
serve-result-requires c =
    let e = length-served _ _ (spelled-by _ _ _ _ c.in-Some.ensures c.in-Serve.is) in
    simp (length-take, length-drop) (omega arith)

pub put_numbers-requires : goal.put_numbers-requires
put_numbers-requires c =
    elim c.match-call-2.branch [
      | in-Make w ↦ omega (arith, length-made _ _ (spelled-by _ _ _ _ c.in-Some.ensures w.in-Make.is))
      | in-Tick w ↦ omega (arith, length-ticked _ _ (spelled-by _ _ _ _ c.in-Some.ensures w.in-Tick.is))
      | in-Serve w ↦ omega (arith, length-served _ _ (spelled-by _ _ _ _ c.in-Some.ensures w.in-Serve.is))
    ]

pub returns : goal.returns
returns c =
    let a = c.args in
    let s = a.r.list.now in
    let m = c.match-call-2 in
    let k = c.numbers-number.result.0 in
    let n = c.numbers-number.result.1 in
    elim m.branch [
      | in-Make w ↦
          let e = spelled-by s a.r.at _ _ c.in-Some.ensures w.in-Make.is in
          let h : Makes model (making_at s a.r.at) a.t.now m.t k = rw (c.numbers-number.ensures.0, w.t-is, w.result-is) w.make-result.ensures.0 in
          let z : n ≡ 0 = rw (c.numbers-number.ensures.1, w.result-is) w.make-result.ensures.1 in
          rw e (carried-made _ _ _ _ a.to _ _ _ _ _ _ h z c.sum.ensures w.out-is c.put_numbers.ensures (omega (arith, length-made s a.r.at e)))
      | in-Tick w ↦
          let e = spelled-by s a.r.at _ _ c.in-Some.ensures w.in-Tick.is in
          let h : Ticks model (ticking_at s a.r.at) a.t.now m.t k n = rw (c.numbers-number.ensures.0, c.numbers-number.ensures.1, w.t-is, w.result-is) w.tick-result.ensures in
          rw e (carried-ticked _ _ _ _ a.to _ _ _ _ _ _ h c.sum.ensures w.out-is c.put_numbers.ensures (omega (arith, length-ticked s a.r.at e)))
      | in-Serve w ↦
          let e = spelled-by s a.r.at _ _ c.in-Some.ensures w.in-Serve.is in
          let long = length-served s a.r.at e in
          let r = w.serve-result.new.reply in
          let room = room_at s a.r.at in
          let h : Serves model (serving_at s a.r.at) a.t.now m.t (replicate room 170) r k n = rw (c.numbers-number.ensures.0, c.numbers-number.ensures.1, w.t-is, w.result-is) w.serve-result.ensures in
          let z : length r ≡ room = w.serve-result.auto.reply ∙ simp (length-take, length-drop) (omega arith) in
          let p = w.out-is ∙ reply-lent a.out.now r (a.to + 12) room (a.to + c.answer_length.result) (omega arith) in
          rw e (carried-served _ _ _ _ a.to _ _ _ _ _ _ _ h z c.sum.ensures p c.put_numbers.ensures (omega arith) (omega arith))
    ]
