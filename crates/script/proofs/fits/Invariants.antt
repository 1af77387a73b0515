-- `script::fits` meets its contract: the records passed spell calls whose answers take what is gone of the room. Assumes nothing.
use Prim.Native.Nat.{◌+◌, ◌-◌, ◌≤◌}
use mathlib.Core.List.{List}
use mathlib.Core.Path.{◌≡◌}
use lib.ListN.{length}
use Rattle.claims.specs.Tally.{Call}
use Rattle.script.specs.Answers.{answers_length}
use Rattle.script.proofs.SpelledLaws.{Passed}
use Rattle.script.proofs.fits.Given as goal

abbrev pub invariant-loop-at : goal.invariant-loop-at
invariant-loop-at l = (l.at ≤ length l.s) × ((done : List Call) × Passed l.s l.at done × (answers_length done + l.left ≡ l.size))

abbrev pub decreases-loop-at : goal.decreases-loop-at
decreases-loop-at l = length l.s - l.at
