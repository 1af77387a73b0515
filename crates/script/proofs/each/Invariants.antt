-- `script::each` meets its contract: the calls of the records passed are carried out, and their answers stand at the buffer's start. Assumes nothing.
use Prim.Native.Nat.{◌-◌, ◌≤◌}
use mathlib.Core.List.{List}
use mathlib.Core.Path.{◌≡◌}
use lib.ListN.{length}
use Rattle.claims.specs.Tally.{Call}
use Rattle.script.specs.Ran.{Carried}
use Rattle.script.proofs.SpelledLaws.{Passed}
use Rattle.script.proofs.each.Given as goal

abbrev pub invariant-loop-at : goal.invariant-loop-at
invariant-loop-at l = (l.at ≤ length l.s) × (length l.t ≡ length l.initial.t) × (length l.out ≡ length l.initial.out) × ((done : List Call) × Passed l.s l.at done × Carried done l.initial.t l.t l.initial.out l.out 0 l.to)

abbrev pub decreases-loop-at : goal.decreases-loop-at
decreases-loop-at l = length l.s - l.at
