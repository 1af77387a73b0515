-- The proof of `read_header`. Assumes nothing.
use native.Mathlib.Omega.{arith}
use mathlib.Core.Path.{sym, ◌∙◌}
use Rattle.query.proofs.HeaderLaws as law
use Rattle.query.proofs.read_header.Goals as goal

pub returns-then-d-lt-HEADER_LEN : goal.returns-then-d-lt-HEADER_LEN
returns-then-d-lt-HEADER_LEN c = law.badly-sized c.args.d.now c.then-d-lt-HEADER_LEN.either

pub returns-then-not-good_header : goal.returns-then-not-good_header
returns-then-not-good_header c =
    law.bad c.args.d.now (omega arith) (omega arith) c.header.result c.header.ensures (sym c.good_header.ensures ∙ c.if-not-good_header.true)

pub returns : goal.returns
returns c =
    law.good c.args.d.now (omega arith) (omega arith) c.header.result c.header.ensures (sym c.good_header.ensures ∙ c.if-not-good_header.false) _
    c.question_count.ensures
