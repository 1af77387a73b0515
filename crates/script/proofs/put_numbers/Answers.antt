-- `script::put_numbers` meets its contract. Assumes nothing.
use Prim.Native.Nat.{◌+◌}
use native.Mathlib.Omega.{arith}
use mathlib.Core.List.{[], ◌∷◌}
use mathlib.Core.Path.{◌≡◌}
use Rattle.model.proofs.NumberLaws.{writes-eq}
use Rattle.script.proofs.put_numbers.Goals as goal

pub returns : goal.returns
returns c =
    let a = c.args in
    let e : a.at + 8 ≡ a.at + 4 + 4 = omega arith in
    rw (c.put32-3.ensures, e, c.put32-2.ensures, c.put32.ensures)
    (writes-eq ((4, a.number) ∷ (4, a.count) ∷ (4, a.sum) ∷ []) a.at a.out.now (omega (arith, c)))
