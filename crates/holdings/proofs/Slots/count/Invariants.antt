-- `holdings::Slots::count` meets its contract: the count of the slots passed. Assumes nothing.
use Prim.Native.Nat.{ℕ, ◌≤◌, ◌<◌}
use mathlib.Core.Path.{◌≡◌}
use mathlib.Core.Bool.{Bool}
use Rattle.model.specs.Lists.{count}
use Rattle.model.specs.Rules.{Holding}
use Rattle.layout.specs.Held.{held_to}
use Rattle.holdings.specs.Slots.{held_at}
use Rattle.holdings.proofs.Slots.count.Given as goal

abbrev pub invariant-loop-i : goal.invariant-loop-i
invariant-loop-i g l =
    (l.count ≤ l.i)
    × ((p : Holding → Bool) → ((i : ℕ) (b : Bool) → i < l.self.n → goal.F-post g l.passes i b → b ≡ held_at l.self p i) → l.count ≡ count (held_to 0 l.self.bytes.now l.i) p)
