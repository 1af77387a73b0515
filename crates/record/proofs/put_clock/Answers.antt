-- `record::put_clock` meets its contract: the place, and behind it the count. Assumes nothing.
use Prim.Native.Nat.{ℕ, ◌+◌, ◌-◌}
use native.Mathlib.Omega.{arith}
use mathlib.Core.Path.{◌≡◌, ap, ◌∙◌}
use mathlib.Core.List.{List, [], ◌∷◌}
use Rattle.model.specs.Numbers.{bytes_of, splice}
use Rattle.model.specs.Table.{place_bytes}
use Rattle.model.proofs.NumberLaws.{writes-eq}
use Rattle.layout.specs.Places.{layout_in}
use Rattle.record.proofs.put_clock.Goals as goal

pub put_place-requires : goal.put_place-requires
put_place-requires c =
    let same = ap place_bytes c.requires.0.0 in
    (omega (arith, c.requires, same), c.requires.2)

pub returns : goal.returns
returns c =
    let a = c.args in
    let w = place_bytes (layout_in a.l) in
    let fs : List (ℕ × ℕ) = (w, a.c.place) ∷ (4, a.c.running) ∷ [] in
    let same = ap place_bytes c.requires.0.0 in
    let place : a.l.lines_at - 4 ≡ 1 + w = omega (arith, c.requires, same) in
    let at = ap (λ (k : ℕ). splice k 4 (bytes_of 4 a.c.running) (splice 1 w (bytes_of w a.c.place) a.t.now)) place in
    let size : w + 4 ≡ w + (4 + 0) = omega arith in
    rw (c.put32.ensures, c.put_place.ensures, size)
    (at ∙ writes-eq fs 1 a.t.now (omega (arith, c.requires, same)))
