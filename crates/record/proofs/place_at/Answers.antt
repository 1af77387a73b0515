-- `record::place_at` meets its contract: 4 bytes or 8, by the width. Assumes nothing.
use Prim.Native.Nat.{ℕ, ◌+◌, ◌≤◌}
use mathlib.Core.Path.{◌≡◌, sym, ap, ◌∙◌}
use Rattle.model.specs.Numbers.{big_endian}
use Rattle.model.specs.Table.{place_width}
use Rattle.layout.specs.declared.Weeks.{Weeks}
use Rattle.layout.specs.Weeks.{weeks_of}
use Rattle.record.proofs.place_at.Goals as goal

on : {w v : Weeks} {n : ℕ} → w ≡ v → 1 + place_width (weeks_of w) ≤ n → 1 + place_width (weeks_of v) ≤ n
on e h = rw e at h

pub get32-requires : goal.get32-requires
get32-requires c = on c.in-Ten.is c.requires

pub get64-requires : goal.get64-requires
get64-requires c = on c.in-Thirteen.is c.requires

pub returns-in-Ten : goal.returns-in-Ten
returns-in-Ten c =
    let t = c.args.t.now in
    c.get32.ensures ∙ sym (ap (λ (w : Weeks). big_endian t 1 (place_width (weeks_of w))) c.in-Ten.is)

pub returns-in-Thirteen : goal.returns-in-Thirteen
returns-in-Thirteen c =
    let t = c.args.t.now in
    c.get64.ensures ∙ sym (ap (λ (w : Weeks). big_endian t 1 (place_width (weeks_of w))) c.in-Thirteen.is)
