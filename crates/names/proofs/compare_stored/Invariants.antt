-- `names::compare_stored` meets its contract: lengths that differ; the words passed agree, and the two of which one differs, or what is behind them, are
-- compared. Assumes nothing.
use Prim.Native.Nat.{◌*◌, ◌/◌, ◌≤◌}
use mathlib.Core.Path.{◌≡◌}
use Rattle.model.specs.Numbers.{part}
use Rattle.names.proofs.compare_stored.Given as goal

abbrev pub invariant-loop-i : goal.invariant-loop-i
invariant-loop-i l = (l.i ≤ l.n / 16) × (part l.a (16 * l.i) l.t ≡ part l.c (16 * l.i) l.t)
