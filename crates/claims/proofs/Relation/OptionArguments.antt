-- What an option asks with, as a good datagram gives it, and what it is to leave and say. Assumes nothing.
use Prim.Native.Nat.{ℕ, ◌^◌, ◌<◌}
use mathlib.Core.Path.{◌≡◌}
use mathlib.Core.Bool.{true}
use Rattle.model.specs.Names.{lower_name}
use Rattle.model.specs.Query.{Question, LlqOption}
use Rattle.model.specs.Serve.{Sender, Served, Outcome}
use Rattle.model.proofs.StepLaws.{FitsSender, FitsQuestion}
use Rattle.claims.specs.Tally.{Tally, outcome_to}
use Rattle.claims.proofs.Relation.{Related}

pub record Arguments (s : Sender) (r : ℕ) (q : Question) : Type 0 where
  pub sender : FitsSender s
  pub random : r < 2 ^ 64
  pub question : FitsQuestion q
  -- a stored name
  pub name : lower_name 0 q.name ≡ true

-- what an option leaves and says is the tally's
abbrev pub Keeps : Served → Tally → Outcome → Type 0
Keeps v w z = Related v.table w × (v.outcome ≡ z)

-- two outcomes that agree in number and lease
pub same_outcome : (o : LlqOption) (error : ℕ) {a b c d : ℕ} → a ≡ b → c ≡ d → outcome_to o error a c ≡ outcome_to o error b d
same_outcome o error u v = cc
