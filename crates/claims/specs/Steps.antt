-- The step's exact meaning, in a cycle of any even number of seconds: of all integers the one in its range that differs from the two places'
-- difference by whole cycles. Assumes nothing.
use Rattle.std.specs.Prelude.{ℕ, ◌+◌, ◌/◌, ◌<◌, ◌≡◌, ℤ, pos, neg_ℤ, ◌+ℤ◌, ◌-ℤ◌, ◌*ℤ◌, ◌≤ℤ◌, ◌<ℤ◌}
use Rattle.model.specs.Clock.{step}

-- from half a cycle back to one second less than half a cycle forward
pub record StepRange (c : ℕ) (z : ℤ) : Type 0 where
  pub low : neg_ℤ (pos (c / 2)) ≤ℤ z
  pub high : z <ℤ pos (c / 2)

-- `to` less `from`, brought by whole cycles, forward or back
pub record ByCycles (c from to : ℕ) (z : ℤ) : Type 0 where
  pub cycles : ℤ
  pub is : z ≡ (pos to -ℤ pos from) +ℤ cycles *ℤ pos c

pub record TheStep (c from to : ℕ) (z : ℤ) : Type 0 where
  pub range : StepRange c z
  pub brought : ByCycles c from to z
  -- no other integer is both
  pub only : (y : ℤ) → StepRange c y → ByCycles c from to y → y ≡ z

-- of every two places on a cycle of c seconds
abbrev pub StepsIn : ℕ → Type 0
StepsIn c = (from to : ℕ) → from < c → to < c → TheStep c from to (step c from to)

-- of a step of a cycle whose half is h: −h to h − 1
abbrev pub Between : ℕ → ℕ → Type 0
Between c h = (from to : ℕ) → from < c → to < c → (neg_ℤ (pos h) ≤ℤ step c from to) × (step c from to <ℤ pos h)

-- THE CLAIM
pub record Steps : Type 0 where
  -- of every even cycle
  pub any : (c : ℕ) → c / 2 + c / 2 ≡ c → StepsIn c
  -- weeks of ten bits: −309,657,600 to 309,657,599; of thirteen: −2,477,260,800 to 2,477,260,799
  pub ten : StepsIn 619315200 × Between 619315200 309657600
  pub thirteen : StepsIn 4954521600 × Between 4954521600 2477260800
