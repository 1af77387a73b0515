-- Document 01's error, number and lease for each outcome, and what serving an option does. Assumes nothing.
use Rattle.std.specs.Prelude.{ℕ, ◌≡◌, cond, List, eqb}
use Rattle.model.specs.Serve as serve
use Rattle.wire.specs.declared.LlqOption.{LlqOption}
use Rattle.table.specs.Written.{Written}
use Rattle.options.specs.declared.Outcome.{Outcome}
use Rattle.options.specs.declared.Outcome.TheVariants as out
use Rattle.options.specs.declared.ServedOption.{ServedOption}
use Rattle.options.specs.declared.Kind.{Kind}
use Rattle.options.specs.declared.Kind.TheVariants as kind

-- the kinds, as the model's
abbrev pub kind_in : Kind → serve.Kind
kind_in kind.BadVersion = serve.bad_version
kind_in kind.BadFormat = serve.bad_format
kind_in kind.Setup = serve.setup
kind_in kind.Response = serve.response
kind_in kind.Refresh = serve.refresh

-- RFC 8764's error numbers: 0 none, 1 SERV-FULL, 3 FORMAT-ERR, 4 NO-SUCH-LLQ, 5 BAD-VERS
abbrev pub outcome_error : Outcome → ℕ
outcome_error (out.Challenge number lease) = 0
outcome_error out.Full = 1
outcome_error (out.Established number lease) = 0
outcome_error (out.Renewed number lease) = 0
outcome_error (out.Ended number) = 0
outcome_error (out.NoSuchLlq number) = 4
outcome_error out.BadFormat = 3
outcome_error out.BadVersion = 5

-- the granted lease, or what is left of it; retry after 60 where full; otherwise 0
abbrev pub outcome_lease : Outcome → ℕ
outcome_lease (out.Challenge number lease) = lease
outcome_lease out.Full = 60
outcome_lease (out.Established number lease) = lease
outcome_lease (out.Renewed number lease) = lease
outcome_lease (out.Ended number) = 0
outcome_lease (out.NoSuchLlq number) = 0
outcome_lease out.BadFormat = 0
outcome_lease out.BadVersion = 0

-- the number of errors 3 and 5: with opcode 2 the one sent, otherwise 0
abbrev pub repeated_number : ℕ → ℕ → ℕ
repeated_number opcode number = cond (eqb opcode 2) number 0

-- an entry's number, or the one that error 4 carries; 0 where full; otherwise the repeated one
abbrev pub outcome_number : ℕ → ℕ → Outcome → ℕ
outcome_number opcode sent (out.Challenge number lease) = number.0
outcome_number opcode sent out.Full = 0
outcome_number opcode sent (out.Established number lease) = number.0
outcome_number opcode sent (out.Renewed number lease) = number.0
outcome_number opcode sent (out.Ended number) = number.0
outcome_number opcode sent (out.NoSuchLlq number) = number.0
outcome_number opcode sent out.BadFormat = repeated_number opcode sent
outcome_number opcode sent out.BadVersion = repeated_number opcode sent

abbrev pub served_outcome : ServedOption → serve.Outcome
served_outcome s =
    record {
      opcode = s.opcode;
      error = outcome_error s.outcome;
      number = outcome_number s.opcode s.number.0 s.outcome;
      lease = outcome_lease s.outcome;
    }

-- an option with its outcome
abbrev pub served_with : LlqOption → Outcome → ServedOption
served_with o x = record { opcode = o.opcode; number = o.number; outcome = x }

-- the bytes are those of the table after the option, and the outcome is the model's
pub record ServedAs (s : serve.Served) (b : List ℕ) (x : ServedOption) : Type 0 where
  pub table : Written b s.table
  pub outcome : served_outcome x ≡ s.outcome
