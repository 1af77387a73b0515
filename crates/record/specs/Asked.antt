-- What two entries of one address ask. Assumes nothing.
use Rattle.std.specs.Prelude.{Bool, ◌&&◌, eqb}
use Rattle.model.specs.Lists.{same}
use Rattle.model.specs.Rules.{Holding}

-- they agree in port, type, class and name
abbrev pub same_asked : Holding → Holding → Bool
same_asked h k = eqb h.port k.port && eqb h.qtype k.qtype && eqb h.qclass k.qclass && same h.name k.name
