-- One option keeps the table and the tally related, and both say the same of it. Assumes nothing.
use Prim.Native.Nat.{ℕ}
use mathlib.Core.Path.{refl}
use mathlib.Core.Bool.{Bool, true, false, cond}
use lib.Dec.{eqb}
use Rattle.model.specs.Lists.{keep}
use Rattle.model.specs.Query.{Question, LlqOption}
use Rattle.model.specs.Table.{Table}
use Rattle.model.specs.Serve.{Sender, serve_kind, serve_option}
use Rattle.claims.specs.Tally.{Tally, outcome_to, is_setup, is_response, is_refresh, is_of, is_answered, is_refreshed, setup_tally, setup_outcome, response_tally, response_outcome, refresh_tally, refresh_outcome, option_tally, option_outcome}
use Rattle.claims.proofs.Relation.{Related}
use Rattle.claims.proofs.Relation.TallyRules.{kind_by, kind-is}
use Rattle.claims.proofs.Relation.SetupKeeps.{setup-keeps}
use Rattle.claims.proofs.Relation.ResponseKeeps.{response-keeps}
use Rattle.claims.proofs.Relation.RefreshKeeps.{refresh-keeps}
use Rattle.claims.proofs.Relation.OptionArguments.{Arguments, Keeps}

module _ (s : Sender) (r : ℕ) (q : Question) (o : LlqOption) (t : Table) (y : Tally) (a : Arguments s r q) (rel : Related t y) where
  -- by the tally's tests: it is a setup, a response, a refresh, or malformed with version 1 or not
  by_tests : (u p w v : Bool)
      → Keeps (serve_kind (kind_by u p w v) s r q o t)
      (cond u (setup_tally s r q o y (keep (is_of s q) y.holdings)) (cond p (response_tally s q o y) (cond w (refresh_tally s q o y) y)))
      (cond u (setup_outcome s r q o y (keep (is_of s q) y.holdings))
      (cond p (response_outcome o (keep (is_answered s q o) y.holdings))
      (cond w (refresh_outcome o (keep (is_refreshed s q o) y.holdings))
      (outcome_to o (cond v 3 5) (cond (eqb o.opcode 2) o.number 0) 0))))
  unfolding serve_kind
  by_tests true p w v = setup-keeps s r q o t y a rel
  by_tests false true w v = response-keeps s q o t y rel
  by_tests false false true v = refresh-keeps s q o t y rel
  by_tests false false false true = (rel, refl)
  by_tests false false false false = (rel, refl)

  pub option-keeps : Keeps (serve_option s r q o t) (option_tally s r q o y) (option_outcome s r q o y)
  unfolding option_tally option_outcome
  option-keeps = rw (kind-is o) (by_tests (is_setup o) (is_response o) (is_refresh o) (eqb o.version 1))
