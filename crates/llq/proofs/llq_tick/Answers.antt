-- `llq::llq_tick` meets its contract. Assumes nothing.
use native.Mathlib.Omega.{arith}
use mathlib.Core.Path.{ap, ◌∙◌}
use Prim.Native.Nat.{ℕ}
use Rattle.std.proofs.lemmas.Result.{err_from_is_err_and}
use Rattle.model.specs.Table.{read_table, table_bytes}
use Rattle.model.specs.Serve.{moved_on}
use Rattle.model.specs.Calls.{freed_by}
use Rattle.llq.proofs.LadderLaws.{tick-found, tick-done}
use Rattle.llq.proofs.AnswerLaws.{freed-few, found-moves}
use Rattle.llq.proofs.llq_tick.Goals as goal

pub returns-in_err-l : goal.returns-in_err-l
returns-in_err-l c =
    let p = err_from_is_err_and c.from_residual.result c.from_residual.ensures.1 in
    rw (p.1, p.2) (tick-found _ _ c.in_err-l.field-0.0 c.in_err-l.ensures)

pub move_on-freed-requires : goal.move_on-freed-requires
move_on-freed-requires c = found-moves c.args.t.now c.in_ok-l.l c.args.week c.args.second _ c.in_ok-l.ensures c.place.ensures

pub overflow_cast-result : goal.overflow_cast-result
overflow_cast-result c = omega (arith, freed-few c.args.t.now c.place.result c.in_ok-l.ensures.0, c.move_on-freed.ensures.1)

pub returns : goal.returns
returns c =
    let f = c.in_ok-l.ensures in
    let t = read_table c.args.t.now in
    let place = c.place.ensures in
    let m = c.move_on-freed.ensures in
    tick-done _ _ _ _ f.0 f.1 (m.0.bytes ∙ ap (λ (k : ℕ). table_bytes (moved_on t k)) place) (m.1 ∙ ap (freed_by t) place)
