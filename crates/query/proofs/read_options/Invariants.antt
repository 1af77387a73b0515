-- The proof of `read_options`. Assumes nothing.
use Prim.Native.Nat.{◌-◌}
use lib.ListN.{length}
use Rattle.query.proofs.OptionLaws as law
use Rattle.query.proofs.read_options.Given as goal

abbrev pub invariant-loop-c : goal.invariant-loop-c
invariant-loop-c l = law.Passed l.s l.initial.c.at l.c.at l.count l.sized l.all

abbrev pub decreases-loop-c : goal.decreases-loop-c
decreases-loop-c l = length l.s - l.c.at
