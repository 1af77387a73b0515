-- An age does not pass the running count's range in one step: of any even cycle half of which and the longest lease are together at most 2^32,
-- so of both widths of the week. Assumes nothing.
use Rattle.std.specs.Prelude.{ℕ, ◌+◌, ◌/◌, ◌%◌, ◌^◌, ◌≤◌, ◌<◌, ◌≡◌, pos}
use Rattle.model.specs.Clock.{step, age_at}

-- in a cycle of c seconds: an age under the longest lease grows by a step forward as a whole number, though the count wraps
abbrev pub AgesIn : ℕ → Type 0
AgesIn c =
    (running stamp from to d : ℕ) → running < 2 ^ 32 → stamp < 2 ^ 32 → age_at running stamp < 7200 → from < c → to < c → step c from to ≡ pos d
    → age_at ((running + d) % 2 ^ 32) stamp ≡ age_at running stamp + d

-- THE CLAIM
pub record Ages : Type 0 where
  pub any : (c : ℕ) → c / 2 + c / 2 ≡ c → c / 2 + 7200 ≤ 2 ^ 32 → AgesIn c
  -- weeks of ten bits, and of thirteen
  pub ten : AgesIn 619315200
  pub thirteen : AgesIn 4954521600
