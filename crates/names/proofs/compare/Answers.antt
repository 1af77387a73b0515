-- `names::compare` meets its contract: lengths that differ; the sent bytes are made the folded ones. Assumes nothing.
use mathlib.Core.Path.{sym}
use mathlib.Core.List.{map}
use native.Mathlib.Omega.{arith}
use Rattle.model.specs.Names.{fold}
use Rattle.model.proofs.ListLaws.{length-map}
use Rattle.model.proofs.CompareLaws.{parts-other-lengths}
use Rattle.names.proofs.FoldLaws.{map-part}
use Rattle.names.proofs.compare.Goals as goal

pub returns-then-m-n : goal.returns-then-m-n
returns-then-m-n c =
    let x = c.args in
    let k = length-map fold x.d.now in
    sym (rw (map-part fold x.b x.n x.d.now) (parts-other-lengths x.t.now (map fold x.d.now) x.a x.b x.m x.n (omega arith) (omega arith) c.if-m-n.true))
