-- `table::clear_lines` meets its contract: the lines from m to i are unused. Assumes nothing.
use Rattle.std.proofs.Common.{◌≡◌, ◌-◌, ◌*◌, length}
use Rattle.model.specs.Numbers.{splice}
use Rattle.table.specs.Fresh.{unused_lines}
use Rattle.table.proofs.clear_lines.Given as goal

abbrev pub invariant-loop-i : goal.invariant-loop-i
invariant-loop-i l = (length l.lines ≡ length l.initial.lines) × (l.lines ≡ splice (19 * l.m) (19 * (l.i - l.m)) (unused_lines (l.i - l.m)) l.initial.lines)
