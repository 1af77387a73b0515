-- A clock that was set back runs on from where it was set to, and one that went back a little and on again loses as much as it went back
-- (document 02, Ticket 4): of any way to move the clock, in a cycle of any even number of seconds. Assumes nothing.
use Rattle.std.specs.Prelude.{ℕ, ◌+◌, ◌-◌, ◌/◌, ◌%◌, ◌^◌, ◌≤◌, ◌<◌, ◌≡◌, cond, ltb}
use Rattle.model.specs.Clock.{Clock}
use Rattle.claims.specs.Tally.{behind}

-- the place so many seconds later, around a cycle of c
abbrev pub later : ℕ → ℕ → ℕ → ℕ
later c place seconds = cond (ltb (place + seconds) c) (place + seconds) (place + seconds - c)

-- THE CLAIM, of a clock k and readings at a place p and d seconds later, d under half a cycle
pub record Resumes (move : ℕ → Clock → ℕ → Clock) : Type 0 where
  -- p is 61 seconds or more behind, up to half a cycle: all of d counts
  pub set_back : (c : ℕ) (k : Clock) (p d : ℕ) → c / 2 + c / 2 ≡ c → k.place < c → p < c → d < c / 2
      → 61 ≤ behind c k.place p → behind c k.place p ≤ c / 2
      → move c (move c k p) (later c p d) ≡ record { place = later c p d; running = (k.running + d) % 2 ^ 32 }
  -- p is b seconds behind, 1 to 60: of d all but b counts
  pub went_back : (c : ℕ) (k : Clock) (p d b : ℕ) → c / 2 + c / 2 ≡ c → k.place < c → p < c → d < c / 2
      → behind c k.place p ≡ b → 1 ≤ b → b ≤ 60 → b ≤ d
      → move c (move c k p) (later c p d) ≡ record { place = later c p d; running = (k.running + (d - b)) % 2 ^ 32 }
