-- `script::serve` meets its contract. Assumes nothing.
use Prim.Native.Nat.{ℕ}
use mathlib.Core.Path.{ap, ◌∙◌}
use lib.ListN.{length, replicate, length-replicate}
use Rattle.script.proofs.RanLaws.{serves-read}
use Rattle.script.proofs.SpelledLaws.{serve-read}
use Rattle.script.proofs.serve.Goals as goal

pub returns : goal.returns
returns c =
    let f = c.fill.ensures.after (λ y h. h) ∙ ap (λ (n : ℕ). replicate n 170) c.requires in
    let e = serve-read _ _ _ _ _ _ _ _ _ _ c.week.ensures c.second.ensures c.get64.ensures c.get64-2.ensures c.get16.ensures c.get64-3.ensures c.body.ensures
    (ap length f ∙ length-replicate _ 170) in
    serves-read _ _ _ _ _ _ _ _ _ e f c.llq_serve.ensures
