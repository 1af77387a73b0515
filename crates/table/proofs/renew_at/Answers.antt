-- `table::renew_at` meets its contract. Assumes nothing.
use Prim.Native.Nat.{ℕ, ◌+◌, ◌*◌}
use native.Mathlib.Omega.{arith}
use mathlib.Core.Path.{◌≡◌}
use mathlib.Core.List.{List, [], ◌∷◌}
use Rattle.model.proofs.NumberLaws.{writes-eq}
use Rattle.table.proofs.renew_at.Goals as goal

pub returns : goal.returns
returns c =
    let fs : List (ℕ × ℕ) = (4, c.args.lease) ∷ (4, c.args.stamp) ∷ [] in
    let p : 320 * c.args.i + 31 ≡ 320 * c.args.i + 27 + 4 = omega arith in
    rw (c.put32-2.ensures, c.put32.ensures, p) (writes-eq fs (320 * c.args.i + 27) c.args.slots.now (omega (arith, c)))
