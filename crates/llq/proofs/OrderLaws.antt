-- The options in order: from the table once the clock is moved, as the model has it from the table before the call. Assumes nothing.
use Prim.Native.Nat.{ℕ, zero, suc, ◌+◌}
use native.Mathlib.Numerals.{add-one}
use mathlib.Core.Path.{◌≡◌, refl, ap}
use mathlib.Core.Bool.{cond}
use mathlib.Core.List.{List, [], ◌∷◌}
use Rattle.model.specs.Query.{Question, LlqOption, question, llq_option, qdcount, matched}
use Rattle.model.specs.Clock.{place_of}
use Rattle.model.specs.Table.{Table}
use Rattle.model.specs.Serve.{Sender, Outcome, serve_option, moved_on}
use Rattle.model.specs.Reply.{mismatch}
use Rattle.model.specs.Calls.{ServeCall, table_before, outcome_of, table_after, outcomes}
use Rattle.model.proofs.ListLaws.{up_to-ext}
use Rattle.llq.specs.Answer.{table_from, outcome_from, table_done, outcomes_done}

pub from-none : (s : Sender) (r : ℕ) (d : List ℕ) (t : Table) → table_from s r d t 0 ≡ t
unfolding table_from
from-none s r d t = refl

-- one option more
module _ (s : Sender) (r : ℕ) (d : List ℕ) (t : Table) (i : ℕ) (u : Table) (q : Question) (o : LlqOption) (e : u ≡ table_from s r d t i) (f : q ≡ question d i)
    (g : o ≡ llq_option d i)
  where
    pub from_next : (serve_option s r q o u).table ≡ table_from s r d t (i + 1)
    unfolding table_from
    from_next = rw (add-one, e, f, g)

    pub outcome-next : (serve_option s r q o u).outcome ≡ outcome_from s r d t i
    unfolding outcome_from
    outcome-next = rw (e, f, g)

-- the model's own order
module _ (c : ServeCall) (t : Table) where
  abbrev pub start : Table
  start = moved_on t (place_of c.week c.second)

  pub before-is : (i : ℕ) → table_before c t i ≡ table_from c.sender c.random c.datagram start i
  unfolding table_before table_from
  before-is zero = refl
  before-is (suc i) =
      ap (λ (u : Table). (serve_option c.sender c.random (question c.datagram i) (llq_option c.datagram i) u).table) (before-is i)

  pub outcome-is : (i : ℕ) → outcome_of c t i ≡ outcome_from c.sender c.random c.datagram start i
  unfolding outcome_of outcome_from
  outcome-is i =
      ap (λ (u : Table). (serve_option c.sender c.random (question c.datagram i) (llq_option c.datagram i) u).outcome) (before-is i)

  pub after_is : table_after c t ≡ table_done c.sender c.random c.datagram start
  unfolding table_after
  after_is = before-is (cond (matched c.datagram) (qdcount c.datagram) 0)

  pub outcomes-is : outcomes c t ≡ outcomes_done c.sender c.random c.datagram start
  unfolding outcomes
  outcomes-is =
      ap (λ (os : List Outcome). cond (matched c.datagram) os (mismatch ∷ []))
      (up_to-ext (qdcount c.datagram) (outcome_of c t) (outcome_from c.sender c.random c.datagram start) (λ i l. outcome-is i))
