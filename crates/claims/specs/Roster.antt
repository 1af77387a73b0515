-- The roster's bytes, read apart from the model: record i is the 19 bytes from 19 * i on: kind 1, address 16, share 1, limit 1. Assumes nothing.
use Rattle.std.specs.Prelude.{ℕ, zero, suc, ◌+◌, ◌*◌, ◌/◌, List, [], ◌∷◌, length, get_or}
use Rattle.model.specs.Numbers.{big_endian}
use Rattle.model.specs.Table.{Line}

abbrev pub kind_at : List ℕ → ℕ → ℕ
kind_at r i = get_or r (19 * i) 0

abbrev pub address_at : List ℕ → ℕ → ℕ
address_at r i = big_endian r (19 * i + 1) 16

abbrev pub share_at : List ℕ → ℕ → ℕ
share_at r i = get_or r (19 * i + 17) 0

abbrev pub limit_at : List ℕ → ℕ → ℕ
limit_at r i = get_or r (19 * i + 18) 0

-- k lines from record i on, in the order given
abbrev pub lines_from : List ℕ → ℕ → ℕ → List Line
lines_from r i zero = []
lines_from r i (suc k) = record { address = address_at r i; share = share_at r i; limit = limit_at r i } ∷ lines_from r (suc i) k

-- all of them, from the first
abbrev pub lines_given : List ℕ → List Line
lines_given r = lines_from r 0 (length r / 19)
