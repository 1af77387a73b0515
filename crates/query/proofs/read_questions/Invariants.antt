-- The proof of `read_questions`. Assumes nothing.
use Prim.Native.Nat.{◌≤◌}
use Rattle.query.proofs.QuestionLaws as law
use Rattle.query.proofs.read_questions.Given as goal

abbrev pub invariant-loop-i : goal.invariant-loop-i
invariant-loop-i l = 1 ≤ l.count → law.Passed l.s l.i l.next.at l.all
