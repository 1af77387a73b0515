-- What a record is by its first byte, and the calls that it then spells. Assumes nothing.
use Rattle.std.specs.Prelude.{ℕ, List, [], ◌∷◌, Option, None, Some}
use Rattle.claims.specs.Tally.{making, ticking, serving}
use Rattle.claims.specs.Tally as tally
use Rattle.script.specs.declared.Call.{Call}
use Rattle.script.specs.declared.Call.TheVariants.{Make, Tick, Serve}
use Rattle.script.specs.Spelled.{making_at, ticking_at, serving_at}

-- the calls of a record that is such a call, or none
abbrev pub spelled_as : Option Call → List ℕ → ℕ → List tally.Call
spelled_as None s at = []
spelled_as (Some Make) s at = making (making_at s at) ∷ []
spelled_as (Some Tick) s at = ticking (ticking_at s at) ∷ []
spelled_as (Some Serve) s at = serving (serving_at s at) ∷ []
