-- A length that is a table's passes the test. Assumes nothing.
use Prim.Native.Nat.{ℕ, ◌≤◌}
use mathlib.Core.Path.{◌≡◌}
use mathlib.Core.Bool.{true}
use borrow.Author.Tests.{eq-eqb, le-leb}
use Rattle.model.specs.Table.{size_of, layout_of, slots_in}
use Rattle.model.specs.Calls.{table_length}

pub right-length : (size : ℕ) → size ≡ size_of (layout_of size) (slots_in size) → 1 ≤ slots_in size → slots_in size ≤ 64 → table_length size ≡ true
unfolding table_length
right-length size e l h = rw (le-leb 1 (slots_in size) l, le-leb (slots_in size) 64 h, eq-eqb size (size_of (layout_of size) (slots_in size)) e)
