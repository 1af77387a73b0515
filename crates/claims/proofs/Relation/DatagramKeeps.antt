-- A datagram's options, one after the other, keep the table and the tally related, and both say the same of each. Assumes nothing.
use Prim.Native.Nat.{ℕ, zero, suc, ◌≤◌, ◌<◌}
use native.Mathlib.Omega.{arith}
use mathlib.Core.Path.{◌≡◌}
use mathlib.Core.Bool.{true}
use Rattle.model.specs.Clock.{valid_reading, place_of}
use Rattle.model.specs.Query.{qdcount, matched, good_questions, question_start, question, llq_option}
use Rattle.model.specs.Table.{Table}
use Rattle.model.specs.Calls.{ServeCall, table_before, outcome_of}
use Rattle.model.proofs.ListLaws.{either}
use Rattle.model.proofs.ClockLaws.{placed}
use Rattle.model.proofs.NameLaws.{question-valid}
use Rattle.model.proofs.QueryLaws.{good-at}
use Rattle.model.proofs.StepLaws.{fits-question}
use Rattle.claims.specs.Tally.{Tally, tally_before, tally_outcome}
use Rattle.claims.specs.Events.{ServeInRange}
use Rattle.claims.specs.Changes.{done_options}
use Rattle.claims.proofs.Relation.{Related}
use Rattle.claims.proofs.Relation.MoveKeeps.{move-keeps}
use Rattle.claims.proofs.Relation.OptionKeeps.{option-keeps}
use Rattle.claims.proofs.Relation.OptionArguments.{Arguments}

-- no more options are done than there are questions
pub done-le : (c : ServeCall) → done_options c ≤ qdcount c.datagram
done-le c = either (λ (n : ℕ). n ≤ qdcount c.datagram) (matched c.datagram) (omega arith) (omega arith)

-- what option i of a good datagram asks with
arguments-at : (c : ServeCall) (i : ℕ) → ServeInRange c → good_questions c.datagram (qdcount c.datagram) ≡ true → i < qdcount c.datagram
    → Arguments c.sender c.random (question c.datagram i)
arguments-at c i v g h =
    let d = c.datagram in
    let at = question_start d i in
    let k = good-at d (qdcount d) i g h in
    record {
      sender = record { address = v.address; port = v.port };
      random = v.random;
      question = fits-question d at v.datagram k;
      name = question-valid d at k;
    }

module _ (c : ServeCall) (t : Table) (y : Tally) (v : ServeInRange c) (w : valid_reading t.layout.weeks c.week c.second ≡ true)
    (g : good_questions c.datagram (qdcount c.datagram) ≡ true) (r : Related t y) where
  -- before option i
  pub datagram-keeps : (i : ℕ) → i ≤ qdcount c.datagram → Related (table_before c t i) (tally_before c y i)
  unfolding table_before tally_before
  datagram-keeps zero h = move-keeps t y (place_of c.week c.second) (placed t.layout.weeks c.week c.second w) r
  datagram-keeps (suc i) h =
      (option-keeps c.sender c.random (question c.datagram i) (llq_option c.datagram i) (table_before c t i) (tally_before c y i)
      (arguments-at c i v g h) (datagram-keeps i (omega arith))).0

  -- what is said of option i
  pub outcome-keeps : (i : ℕ) → i < qdcount c.datagram → outcome_of c t i ≡ tally_outcome c y i
  unfolding outcome_of
  outcome-keeps i h =
      (option-keeps c.sender c.random (question c.datagram i) (llq_option c.datagram i) (table_before c t i) (tally_before c y i)
      (arguments-at c i v g h) (datagram-keeps i (omega arith))).1
