-- `script::sum` meets its contract: the sum so far, gone on with over the bytes left, is the whole sum. Assumes nothing.
use Prim.Native.Nat.{◌<◌}
use mathlib.Core.Path.{◌≡◌}
use lib.ListN.{drop}
use Rattle.script.specs.Answers.{sum_from, sum_of}
use Rattle.script.proofs.sum.Given as goal

abbrev pub invariant-loop-b : goal.invariant-loop-b
invariant-loop-b l = (l.c < 4294967291) × (sum_from l.c (drop l.b-index l.t) ≡ sum_of l.t)
