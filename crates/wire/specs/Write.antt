-- What the writers of a reply's parts write, from numbers. Assumes nothing.
use Rattle.std.specs.Prelude.{ℕ, ◌+◌, List, [], ◌∷◌}
use Rattle.model.specs.Numbers.{encode}
use Rattle.model.specs.Serve.{Outcome}

-- the model's header_bytes, from the message number, the RD bit and QDCOUNT
unfoldable pub header_sent : ℕ → ℕ → ℕ → List ℕ
header_sent number desired count = encode ((2, number) ∷ (1, 132 + desired) ∷ (1, 0) ∷ (2, count) ∷ (2, 0) ∷ (2, 0) ∷ (2, 1) ∷ [])

abbrev pub outcome_sent : ℕ → ℕ → ℕ → ℕ → Outcome
outcome_sent opcode error number lease = record { opcode = opcode; error = error; number = number; lease = lease }
