-- Of an answered datagram in a list of calls: each option's reply is the one worked out on the tally. Assumes nothing.
use Prim.Native.Nat.{ℕ, ◌≤◌}
use native.Mathlib.Omega.{arith}
use mathlib.Core.Path.{◌≡◌, sym, ◌∙◌, subst}
use mathlib.Core.Bool.{not}
use mathlib.Core.List.{List}
use lib.ListN.{length}
use Rattle.model.specs.Lists.{count}
use Rattle.model.specs.Query.{qdcount, question, llq_option}
use Rattle.model.specs.Table.{Line, Table, read_table}
use Rattle.model.specs.Sound.{valid_line}
use Rattle.model.specs.Serve.{Outcome}
use Rattle.model.specs.Calls.{ServeCall, serve_refusal, table_before, serve}
use Rattle.claims.specs.Tally.{Tally, tally_before, tally_outcome, Full}
use Rattle.claims.specs.Events.{ServeInRange}
use Rattle.claims.specs.Demand3.{WithinLimits, error_in, NewQuestion, OptionReply, DatagramReply}
use Rattle.claims.specs.Reply.{option_place, OptionSays}
use Rattle.claims.proofs.Relation.{Related}
use Rattle.claims.proofs.Relation.TallyRules.{full-exactly}
use Rattle.claims.proofs.AcceptedCalls.{serve-accepted}
use Rattle.claims.proofs.Demand3.TallyLaws.{told-full, full-told, full-share}
use Rattle.claims.proofs.Reply.AnsweredReply.{reply-answered}
use Rattle.claims.proofs.Relation.HoldingFacts.{within-limits}
use Rattle.claims.proofs.Relation.DatagramKeeps.{datagram-keeps, outcome-keeps}
use Rattle.claims.proofs.Demand3.CallSteps.{Invariant, kept_back}

-- OPTION i
module _ (c : ServeCall) (left : List ℕ) (before : Tally) (t : Table) (i : ℕ)
    (says : OptionSays left (option_place c.datagram i) (llq_option c.datagram i).opcode (tally_outcome c before i).error
    (tally_outcome c before i).number (tally_outcome c before i).lease)
    (r : Related t (tally_before c before i)) where
  abbrev now : Tally
  now = tally_before c before i

  lines-valid : count now.roster (λ l. not (valid_line l)) ≡ 0
  lines-valid = subst (λ (ls : List Line). count ls (λ l. not (valid_line l)) ≡ 0) r.roster r.sound.valid_lines

  is-told : error_in left c.datagram i ≡ 1 → NewQuestion c now i × Full now c.sender.address
  is-told e =
      let f = told-full c.sender c.random (question c.datagram i) (llq_option c.datagram i) now (sym says.error ∙ e) in
      (record { setup = f.setup; unheld = f.unheld }, (full-exactly now c.sender.address).0 f.full)

  option-reply : WithinLimits now → OptionReply c left i before now
  option-reply limits =
      record {
        full_exactly = (
          is-told,
          λ p. says.error ∙ full-told c.sender c.random (question c.datagram i) (llq_option c.datagram i) now
              (record { setup = p.0.setup; unheld = p.0.unheld; full = (full-exactly now c.sender.address).1 p.1 }),
        );
        below_share = λ n e. n (full-share now c.sender.address lines-valid (is-told e).1);
        error = says.error;
        number = says.number;
        lease = says.lease;
        limits = limits;
      }

-- the reply of an answered datagram
pub replied : (size : ℕ) (b lent : List ℕ) (y : Tally) (c : ServeCall) → ServeInRange c → Invariant size b y → c.room ≡ length lent → serve_refusal c b ≡ 0
    → DatagramReply c (serve c b lent).reply y
replied size b lent y c range x room e =
    let d = c.datagram in
    let p = serve-accepted c b e in
    let r : Related (read_table b) y = subst (λ (t : Table). Related t y) (sym (kept_back x)) x.related in
    let related : ((i : ℕ) → i ≤ qdcount d → Related (table_before c (read_table b) i) (tally_before c y i)) =
    datagram-keeps c (read_table b) y range p.reading p.questions r in
    let says = reply-answered c b lent range p room (λ i l. (related i (omega arith)).fits) e in
    record {
      options = λ m i l.
          let o = outcome-keeps c (read_table b) y range p.reading p.questions r i l in
          option-reply c (serve c b lent).reply y (table_before c (read_table b) i) i
          (subst (λ (o : Outcome). OptionSays (serve c b lent).reply (option_place d i) (llq_option d i).opcode o.error o.number o.lease) o (says.options m i l))
          (related i (omega arith))
          (within-limits (table_before c (read_table b) i) (tally_before c y i) (related i (omega arith)));
      mismatch = λ m e. omega (arith, (says.mismatch m).error);
    }
