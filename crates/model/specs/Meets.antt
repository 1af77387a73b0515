-- What the public contracts state: the call's answer and the bytes at exit are the model's, for all inputs. Assumes nothing.
use Rattle.std.specs.Prelude.{ℕ, ◌≡◌, List}
use Rattle.model.specs.Calls.{MakeCall, TickCall, ServeCall, Made, Ticked, Answered, make, tick, serve}

-- a server: making, ticking and serving, on the table's bytes and the reply buffer's
pub record Server : Type 0 where
  pub make : MakeCall → List ℕ → Made
  pub tick : TickCall → List ℕ → Ticked
  pub serve : ServeCall → List ℕ → List ℕ → Answered

-- the model's
abbrev pub model : Server
model = record { make = make; tick = tick; serve = serve }

-- a call of a server, from the bytes before to the numbers returned and the bytes after
pub record Makes (s : Server) (c : MakeCall) (before after : List ℕ) (n : ℕ) : Type 0 where
  pub number : n ≡ (s.make c before).number
  pub table : after ≡ (s.make c before).table

pub record Ticks (s : Server) (c : TickCall) (before after : List ℕ) (n k : ℕ) : Type 0 where
  pub number : n ≡ (s.tick c before).number
  pub freed : k ≡ (s.tick c before).freed
  pub table : after ≡ (s.tick c before).table

pub record Serves (s : Server) (c : ServeCall) (before after lent left : List ℕ) (n k : ℕ) : Type 0 where
  pub number : n ≡ (s.serve c before lent).number
  pub length : k ≡ (s.serve c before lent).length
  pub table : after ≡ (s.serve c before lent).table
  pub reply : left ≡ (s.serve c before lent).reply

abbrev pub MakeMeets : MakeCall → List ℕ → List ℕ → ℕ → Type 0
MakeMeets = Makes model

abbrev pub TickMeets : TickCall → List ℕ → List ℕ → ℕ → ℕ → Type 0
TickMeets = Ticks model

abbrev pub ServeMeets : ServeCall → List ℕ → List ℕ → List ℕ → List ℕ → ℕ → ℕ → Type 0
ServeMeets = Serves model
