-- `names::compare_words` meets its contract: the words passed agree, and the first that differs, or what is behind them, is compared byte by byte.
-- Assumes nothing.
use Prim.Native.Nat.{◌*◌, ◌/◌, ◌≤◌}
use mathlib.Core.Path.{◌≡◌}
use Rattle.model.specs.Numbers.{part}
use Rattle.names.proofs.compare_words.Given as goal

abbrev pub invariant-loop-i : goal.invariant-loop-i
invariant-loop-i l = (l.i ≤ l.n / 8) × (part l.a (8 * l.i) l.t ≡ part l.c (8 * l.i) l.t)

-- bytes as they lie
abbrev pub ghost-compare_bytes : goal.ghost-compare_bytes
ghost-compare_bytes a = λ b. b

abbrev pub ghost-compare_bytes-2 : goal.ghost-compare_bytes-2
ghost-compare_bytes-2 a = λ b. b
