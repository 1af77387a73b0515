-- What a call of a server is said to return and leave, and what the public contracts ensure: each number and each byte, and no more is asked.
-- Assumes nothing.
use Rattle.std.specs.Prelude.{ℕ, ◌≡◌, List}
use Rattle.model.specs.Calls.{MakeCall, TickCall, ServeCall}
use Rattle.model.specs.Meets.{Server, model, Makes, Ticks, Serves, MakeMeets, TickMeets, ServeMeets}
use Rattle.claims.specs.Exactly.{Exactly}

-- the numbers returned and the bytes left are those of the server's answer
abbrev pub AsMade : Server → MakeCall → List ℕ → List ℕ → ℕ → Type 0
AsMade s c before after n = (n ≡ (s.make c before).number) × (after ≡ (s.make c before).table)

abbrev pub AsTicked : Server → TickCall → List ℕ → List ℕ → ℕ → ℕ → Type 0
AsTicked s c before after n k = (n ≡ (s.tick c before).number) × (k ≡ (s.tick c before).freed) × (after ≡ (s.tick c before).table)

abbrev pub AsServed : Server → ServeCall → List ℕ → List ℕ → List ℕ → List ℕ → ℕ → ℕ → Type 0
AsServed s c before after lent left n k =
    (n ≡ (s.serve c before lent).number) × (k ≡ (s.serve c before lent).length) × (after ≡ (s.serve c before lent).table) × (left ≡ (s.serve c before lent).reply)

-- OF A SERVER, as the lists of calls cite it (Events, `Happens`)
pub record CallsExactly (s : Server) : Type 0 where
  pub makes : (c : MakeCall) (before after : List ℕ) (n : ℕ) → Exactly (Makes s c before after n) (AsMade s c before after n)
  pub ticks : (c : TickCall) (before after : List ℕ) (n k : ℕ) → Exactly (Ticks s c before after n k) (AsTicked s c before after n k)
  pub serves : (c : ServeCall) (before after lent left : List ℕ) (n k : ℕ)
      → Exactly (Serves s c before after lent left n k) (AsServed s c before after lent left n k)

-- OF THE CONTRACTS of llq_make, llq_tick and llq_serve
pub record ContractsExactly : Type 0 where
  pub makes : (c : MakeCall) (before after : List ℕ) (n : ℕ) → Exactly (MakeMeets c before after n) (AsMade model c before after n)
  pub ticks : (c : TickCall) (before after : List ℕ) (n k : ℕ) → Exactly (TickMeets c before after n k) (AsTicked model c before after n k)
  pub serves : (c : ServeCall) (before after lent left : List ℕ) (n k : ℕ)
      → Exactly (ServeMeets c before after lent left n k) (AsServed model c before after lent left n k)
