-- `table::free_run_out` meets its contract. Assumes nothing.
use native.Mathlib.Omega.{arith}
use mathlib.Core.Path.{refl, sym, ap, ◌∙◌}
use borrow.Author.Rules.{rules}
use lib.ListN.{length}
use Rattle.table.proofs.SweepLaws as sweep
use Rattle.table.proofs.free_run_out.Goals as goal
use Rattle.table.proofs.free_run_out.Goals.{then-run_out, else-run_out}

pub loop-i-init : goal.loop-i-init
loop-i-init c = (search rules, refl, sweep.sweep-start _ _ _ c.requires.1, search rules, λ j. omega (arith, c.type_inv.slots j))

pub loop-i-preserved : goal.loop-i-preserved
loop-i-preserved c =
    let l = c.loop-i in
    let a = c.args in
    elim c.if-run_out.branch [
      | then-run_out w ↦
          let h = sym c.run_out.ensures ∙ w.if-run_out.true in (
            omega arith,
            ap length w.slots-is ∙ w.end_entry.auto.slots ∙ l.invariant.1,
            w.slots-is ∙ w.end_entry.ensures ∙ sweep.turn-hit a.slots.now l.invariant.4 a.n a.running l.i (omega arith) l.slots l.invariant.2 h,
            rw w.freed-is (sweep.count-hit a.slots.now l.invariant.4 a.n a.running l.i (omega arith) l.slots l.invariant.2 l.freed h l.invariant.3),
            l.invariant.4,
          )
      | else-run_out w ↦
          let h = sym c.run_out.ensures ∙ w.if-run_out.false in (
            omega arith,
            ap length w.slots-is ∙ l.invariant.1,
            w.slots-is ∙ sweep.turn-miss a.slots.now l.invariant.4 a.n a.running l.i (omega arith) l.slots l.invariant.2 h,
            rw w.freed-is (sweep.count-miss a.slots.now l.invariant.4 a.n a.running l.i (omega arith) l.slots l.invariant.2 l.freed h l.invariant.3),
            l.invariant.4,
          )
    ]

pub returns : goal.returns
returns c =
    let l = c.loop-i in
    let a = c.args in
    sweep.all-freed a.slots.now l.invariant.4 a.n a.running l.slots l.freed l.i (omega arith) l.invariant.2 l.invariant.3
