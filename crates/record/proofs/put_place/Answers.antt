-- `record::put_place` meets its contract: 4 bytes or 8, by the width. Assumes nothing.
use Prim.Native.Nat.{ℕ, ◌+◌, ◌≤◌, ◌<◌}
use native.Mathlib.Omega.{arith}
use mathlib.Core.Path.{◌≡◌, sym, ap, ◌∙◌}
use Rattle.model.specs.Clock.{cycle_of}
use Rattle.model.specs.Numbers.{bytes_of, splice}
use Rattle.model.specs.Table.{place_width}
use Rattle.layout.specs.declared.Weeks.{Weeks}
use Rattle.layout.specs.Weeks.{weeks_of}
use Rattle.record.proofs.put_place.Goals as goal

on : {w v : Weeks} {place : ℕ} → w ≡ v → place < cycle_of (weeks_of w) → place < cycle_of (weeks_of v)
on e h = rw e at h

room : {w v : Weeks} {n : ℕ} → w ≡ v → 1 + place_width (weeks_of w) ≤ n → 1 + place_width (weeks_of v) ≤ n
room e h = rw e at h

pub overflow_cast-place : goal.overflow_cast-place
overflow_cast-place c = omega (arith, on c.in-Ten.is c.requires.1)

pub put32-requires : goal.put32-requires
put32-requires c = room c.in-Ten.is c.requires.0

pub put64-requires : goal.put64-requires
put64-requires c = room c.in-Thirteen.is c.requires.0

pub returns-in-Ten : goal.returns-in-Ten
returns-in-Ten c =
    let a = c.args in
    c.put32.ensures
    ∙ sym (ap (λ (w : Weeks). splice 1 (place_width (weeks_of w)) (bytes_of (place_width (weeks_of w)) a.place) a.t.now) c.in-Ten.is)

pub returns-in-Thirteen : goal.returns-in-Thirteen
returns-in-Thirteen c =
    let a = c.args in
    c.put64.ensures
    ∙ sym (ap (λ (w : Weeks). splice 1 (place_width (weeks_of w)) (bytes_of (place_width (weeks_of w)) a.place) a.t.now) c.in-Thirteen.is)
