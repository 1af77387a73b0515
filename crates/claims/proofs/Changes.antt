-- Claim 2 of the model: what an answered datagram changes, option by option. Assumes nothing.
pub mod OptionTests
pub mod OptionChange
pub mod EntryAfter
pub mod MovedLaws
use Prim.Native.Nat.{ℕ, ◌+◌, ◌*◌, ◌≤◌}
use native.Mathlib.Omega.{arith}
use mathlib.Core.Path.{◌≡◌, sym, ap, ◌∙◌}
use mathlib.Core.List.{List}
use lib.ListN.{length, drop}
use Rattle.model.specs.Query.{qdcount, question, llq_option}
use Rattle.model.specs.Table.{read_table, table_bytes}
use Rattle.model.specs.Sound.{SoundBytes}
use Rattle.model.specs.Calls.{ServeCall, Answered, serve_refusal, table_before, table_after, serve}
use Rattle.model.specs.Meets.{model}
use Rattle.model.proofs.CallLaws.{serve-number, serve-answered}
use Rattle.claims.specs.Events.{ServeInRange}
use Rattle.claims.specs.Tally.{tally_before}
use Rattle.claims.specs.Changes.{Datagram, done_options, Changes}
use Rattle.claims.specs.AnySound.{tally_of}
use Rattle.claims.proofs.Relation.{Related}
use Rattle.claims.proofs.AcceptedCalls.{serve-accepted}
use Rattle.claims.proofs.Reply.AnsweredReply.{reply-answered}
use Rattle.claims.proofs.Relation.DatagramKeeps.{done-le, datagram-keeps}
use Rattle.claims.proofs.Changes.MovedLaws.{moved_on_lem}
use Rattle.claims.proofs.Changes.EntryAfter.{option-done}
use Rattle.claims.proofs.Relation.TableTally.{related-read, read_back}

module _ (c : ServeCall) (b lent : List ℕ) (range : ServeInRange c) (stored : SoundBytes b) (e : (serve c b lent).number ≡ 0) where
  none-refused : serve_refusal c b ≡ 0
  none-refused = sym (serve-number c b lent) ∙ e

  -- the table stays sound from option to option
  stays-related : (i : ℕ) → i ≤ qdcount c.datagram → Related (table_before c (read_table b) i) (tally_before c (tally_of (read_table b)) i)
  stays-related i h =
      let p = serve-accepted c b none-refused in
      datagram-keeps c (read_table b) (tally_of (read_table b)) range p.reading p.questions (related-read b stored) i h

  -- the bytes left are those of the table after all options
  pub table-left : (serve c b lent).table ≡ table_bytes (table_after c (read_table b))
  table-left = ap (λ (a : Answered). a.table) (serve-answered c b lent none-refused)

  pub datagram-done : Datagram c b (serve c b lent).table
  unfolding table_before table_after
  datagram-done =
      record {
        tables = table_before c (read_table b);
        moved = moved_on_lem (read_table b) (c.week * 604800 + c.second);
        options = λ i h.
            option-done c.sender c.random (question c.datagram i) (llq_option c.datagram i) (table_before c (read_table b) i)
            (stays-related i (omega (arith, done-le c))).sound;
        bytes = table-left;
      }

  -- and they are read as that table
  pub read_left : read_table (serve c b lent).table ≡ datagram-done.tables (done_options c)
  unfolding datagram-done table_after
  read_left =
      ap read_table table-left
      ∙ read_back (table_before c (read_table b) (done_options c)) (tally_before c (tally_of (read_table b)) (done_options c))
      (stays-related (done_options c) (done-le c))

  pub reply-beyond : c.room ≡ length lent → drop (serve c b lent).length (serve c b lent).reply ≡ drop (serve c b lent).length lent
  reply-beyond room =
      (reply-answered c b lent range (serve-accepted c b none-refused) room (λ i h. (stays-related i (omega arith)).fits) none-refused).beyond

pub changes : Changes model
changes c b lent range stored room e = (datagram-done c b lent range stored e, reply-beyond c b lent range stored e room)
