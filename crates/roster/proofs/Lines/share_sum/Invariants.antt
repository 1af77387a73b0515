-- `roster::Lines::share_sum` meets its contract: the sum of the lines passed. Assumes nothing.
use Prim.Native.Nat.{◌*◌, ◌≤◌}
use mathlib.Core.Path.{◌≡◌}
use Rattle.model.specs.Rules.{shares}
use Rattle.layout.specs.Shape.{lines_to}
use Rattle.roster.proofs.Lines.share_sum.Given as goal

abbrev pub invariant-loop-i : goal.invariant-loop-i
invariant-loop-i l = (l.i ≤ l.self.count) × (l.sum ≤ 255 * l.i) × (l.sum ≡ shares (lines_to l.self.bytes.now l.i))
