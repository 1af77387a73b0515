-- Claim 4: an answered tick moves the clock, frees run-out entries and reports how many. Assumes nothing.
use Rattle.std.specs.Prelude.{ℕ, ◌+◌, ◌*◌, ◌≡◌, List, length}
use Rattle.model.specs.Table.{read_table, table_bytes}
use Rattle.model.specs.Rules.{holdings}
use Rattle.model.specs.Sound.{SoundBytes}
use Rattle.model.specs.Calls.{TickCall}
use Rattle.model.specs.Meets.{Server}
use Rattle.claims.specs.Events.{TickInRange}
use Rattle.claims.specs.Changes.{Moved}

pub record TickDone (c : TickCall) (before after : List ℕ) (freed : ℕ) : Type 0 where
  -- layout and roster as before, clock moved, each slot as before, or free exactly where its entry had run out at the moved count
  pub moved : Moved (c.week * 604800 + c.second) (read_table before) (read_table after)
  -- nothing else is in the bytes
  pub bytes : after ≡ table_bytes (read_table after)
  -- the freed count is live entries before less live after
  pub count : freed + length (holdings (read_table after)) ≡ length (holdings (read_table before))

abbrev pub Ticking : Server → Type 0
Ticking s = (c : TickCall) (b : List ℕ) → TickInRange c → SoundBytes b → (s.tick c b).number ≡ 0 → TickDone c b (s.tick c b).table (s.tick c b).freed
