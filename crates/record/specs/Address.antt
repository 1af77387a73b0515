-- The address of two halves, as the model's number. Assumes nothing.
use Rattle.std.specs.Prelude.{ℕ, ◌+◌, ◌*◌, ◌^◌}
use Rattle.record.specs.declared.Address.{Address}

abbrev pub address_of : Address → ℕ
address_of a = a.high * 2 ^ 64 + a.low
