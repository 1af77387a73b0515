-- Claim 7 of the model's server. Assumes nothing.
pub mod ReplyBytes
pub mod OutcomeLaws
pub mod AnsweredReply
use native.Mathlib.Omega.{arith}
use mathlib.Core.Path.{◌≡◌, sym, ◌∙◌}
use Rattle.model.specs.Table.{read_table}
use Rattle.model.specs.Calls.{serve_refusal}
use Rattle.model.specs.Meets.{model}
use Rattle.model.proofs.CallLaws.{serve-number}
use Rattle.claims.specs.Reply.{ReplyClaim}
use Rattle.claims.specs.AnySound.{tally_of}
use Rattle.claims.proofs.Relation.TableTally.{related-read}
use Rattle.claims.proofs.Relation.DatagramKeeps.{datagram-keeps}
use Rattle.claims.proofs.AcceptedCalls.{serve-accepted}
use Rattle.claims.proofs.Reply.AnsweredReply.{reply-answered}

pub reply-claim : ReplyClaim model
reply-claim b lent c stored range room answered =
    let e : serve_refusal c b ≡ 0 = sym (serve-number c b lent) ∙ answered in
    let p = serve-accepted c b e in
    let t = read_table b in
    reply-answered c b lent range p room
    (λ i l. (datagram-keeps c t (tally_of t) range p.reading p.questions (related-read b stored) i (omega arith)).fits) e
