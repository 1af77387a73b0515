-- The layout of the code, as the model's: of a table of a length, where lines and slots start, and how many slots there are. Assumes nothing.
use Rattle.std.specs.Prelude.{ℕ, ◌≡◌}
use Rattle.model.specs.Table as model
use Rattle.model.specs.Table.{lines_at, base, layout_of, slots_in}
use Rattle.layout.specs.declared.Layout.{Layout}
use Rattle.layout.specs.Weeks.{weeks_of}

abbrev pub layout_in : Layout → model.Layout
layout_in l = record { weeks = weeks_of l.weeks }

-- it is the layout of a table of this length
abbrev pub LayoutFor : Layout → ℕ → Type 0
LayoutFor l size =
    (layout_in l ≡ layout_of size) × (l.lines_at ≡ lines_at (layout_of size)) × (l.slots_at ≡ base (layout_of size)) × (l.n ≡ slots_in size)
