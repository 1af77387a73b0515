-- `sound::each_passes` meets its contract: the entries passed met the test, and below a byte's first slot none ends in it. Assumes nothing.
use Prim.Native.Nat.{ℕ, ◌≤◌, ◌<◌}
use mathlib.Core.Path.{◌≡◌}
use mathlib.Core.Bool.{true}
use lib.ListN.{length}
use Rattle.sound.specs.Entries.{HasEntry}
use Rattle.sound.proofs.FirstLaws.{Firsts}
use Rattle.sound.proofs.each_passes.Given as goal

abbrev pub invariant-loop-i : goal.invariant-loop-i
invariant-loop-i g l = (l.i ≤ l.slots.n) × (length l.first ≡ 256) × Firsts l.slots.bytes.now l.last l.i l.first
    × ((k : ℕ) → k < l.i → HasEntry l.slots k → (from : ℕ) × goal.F-post g l.passes from k true)
