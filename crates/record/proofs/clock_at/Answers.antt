-- `record::clock_at` meets its contract: place and running count. Assumes nothing.
use native.Mathlib.Omega.{arith}
use mathlib.Core.Path.{ap, ◌∙◌}
use Rattle.model.specs.Numbers.{big_endian}
use Rattle.model.specs.Table.{Layout, place_bytes, read_table}
use Rattle.record.proofs.clock_at.Goals as goal

pub place_at-requires : goal.place_at-requires
place_at-requires c = let same = ap place_bytes c.requires.0.0 in omega (arith, c.requires, same)

pub returns : goal.returns
unfolding read_table
returns c =
    let place = c.place_at.ensures ∙ ap (λ (l : Layout). big_endian c.args.t.now 1 (place_bytes l)) c.requires.0.0 in
    rw (place, c.running_count.ensures)
