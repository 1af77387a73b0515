-- The lines that code looks at, as the model has them, and what a search of them for an address finds. Assumes nothing.
use Rattle.std.specs.Prelude.{ℕ, ◌≡◌, ◌*◌, ◌<◌, true, not, eqb, List, Option, MatchOption}
use Rattle.model.specs.Lists.{every}
use Rattle.model.specs.Table.{Line, read_line}
use Rattle.layout.specs.Shape.{lines_to}
use Rattle.roster.specs.declared.Lines.{Lines}

abbrev pub lines_of : Lines → List Line
lines_of l = lines_to l.bytes.now l.count

-- no line below i has the address
abbrev pub NoneBelow : Lines → ℕ → ℕ → Type 0
NoneBelow l a i = every (λ x. not (eqb x.address a)) (lines_to l.bytes.now i) ≡ true

-- line i has the address, and none before it
pub record FirstLine (l : Lines) (a i : ℕ) : Type 0 where
  pub within : i < l.count
  pub earlier : NoneBelow l a i
  pub here : eqb (read_line l.bytes.now (19 * i)).address a ≡ true

-- the first line of the address; none has it
abbrev pub FindsLine : Lines → ℕ → Option ℕ → Type 0
FindsLine l a r = MatchOption r (NoneBelow l a l.count) (λ i. FirstLine l a i)
