-- The proof of `read_options`. Assumes nothing.
use native.Mathlib.Omega.{arith}
use mathlib.Core.Path.{refl, sym, ap, ◌∙◌}
use lib.ListN.{replicate}
use Rattle.wire.specs.declared.LlqOption.{LlqOption}
use Rattle.wire.proofs.Reading.{option_is}
use Rattle.query.proofs.OptionLaws as law
use Rattle.query.proofs.read_options.Goals as goal
use Rattle.query.proofs.read_options.Goals.{then-o-ne18, else-o-ne18+then-count-lt8, else-o-ne18+else-count-lt8}

pub loop-c-init : goal.loop-c-init
loop-c-init c =
    let a = c.args in
    law.passed_none a.s.now a.first.at _ (omega arith) (ap (λ (q : LlqOption). replicate 8 q) (law.default-blank c.default-all.result c.default-all.ensures))

pub returns-in_default : goal.returns-in_default
returns-in_default c =
    let l = c.loop-c in
    let a = c.args in
    (law.read-bad a.s.now a.first.at l.c.at l.count l.sized l.all l.invariant (omega arith) (option_is a.s.now l.c.at c.in_default.ensures), refl)

pub loop-c-preserved-then-o-ne1 : goal.loop-c-preserved-then-o-ne1
loop-c-preserved-then-o-ne1 c =
    let l = c.loop-c in
    let a = c.args in
    let q = option_is a.s.now l.c.at c.in-Some.ensures in
    rw q.4
    (law.pass-other a.s.now a.first.at l.c.at l.count l.sized l.all l.invariant (omega arith) q.0 (omega arith) (λ e. c.if-o-ne1.true (q.1 ∙ e)))

pub llq_option-requires : goal.llq_option-requires
llq_option-requires c =
    let l = c.loop-c in
    let a = c.args in
    let q = option_is a.s.now l.c.at c.in-Some.ensures in
    omega (arith, q)

pub loop-c-preserved : goal.loop-c-preserved
loop-c-preserved c =
    let l = c.loop-c in
    let a = c.args in
    let q = option_is a.s.now l.c.at c.in-Some.ensures in
    let llq = sym q.1 ∙ c.if-o-ne1.false in
    elim c.if-o-ne18.branch [
      | then-o-ne18 w ↦
          rw (q.4, w.all-is, w.sized-is)
          (law.pass-unfit a.s.now a.first.at l.c.at l.count l.sized l.all l.invariant (omega arith) q.0 (omega arith) llq (λ e. w.if-o-ne18.true (q.3 ∙ e)))
      | else-o-ne18+then-count-lt8 w ↦
          rw (q.4, w.all-is, w.sized-is, w.llq_option.ensures, q.2)
          (law.pass-stored a.s.now a.first.at l.c.at l.count l.sized l.all l.invariant (omega arith) q.0 (omega arith) llq (sym q.3 ∙ w.if-o-ne18.false) (omega arith))
      | else-o-ne18+else-count-lt8 w ↦
          rw (q.4, w.all-is, w.sized-is)
          (law.pass-beyond a.s.now a.first.at l.c.at l.count l.sized l.all l.invariant (omega arith) q.0 (omega arith) llq (sym q.3 ∙ w.if-o-ne18.false) (omega arith))
    ]

pub returns : goal.returns
returns c =
    let l = c.loop-c in
    let a = c.args in
    law.read-end a.s.now a.first.at l.c.at l.count l.sized l.all l.invariant (omega arith)
