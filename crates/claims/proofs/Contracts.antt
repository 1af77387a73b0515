-- A call's numbers and bytes, and what the contracts ensure, are settled. Assumes nothing.
use Rattle.model.specs.Meets.{Server, model}
use Rattle.claims.specs.CallContracts.{CallsExactly, ContractsExactly}

pub calls-exactly : (s : Server) → CallsExactly s
calls-exactly s =
    record {
      makes = λ c before after n. (λ m. (m.number, m.table), λ m. record { number = m.0; table = m.1 });
      ticks = λ c before after n k. (λ m. (m.number, m.freed, m.table), λ m. record { number = m.0; freed = m.1; table = m.2 });
      serves = λ c before after lent left n k.
          (λ m. (m.number, m.length, m.table, m.reply), λ m. record { number = m.0; length = m.1; table = m.2; reply = m.3 });
    }

-- the contracts are those of the model's server
pub contracts-exactly : ContractsExactly
contracts-exactly = let s = calls-exactly model in record { makes = s.makes; ticks = s.ticks; serves = s.serves }
