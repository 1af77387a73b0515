-- The first i slots changed: what a loop over the slots has done. Assumes nothing.
use Rattle.std.specs.Prelude.{ℕ, zero, suc, List, [], ◌∷◌}
use Rattle.model.specs.Table.{Slot}
use Rattle.model.specs.Serve.{free_if_run_out}

unfoldable pub first_changed : ℕ → (Slot → Slot) → List Slot → List Slot
first_changed zero g s = s
first_changed (suc i) g [] = []
first_changed (suc i) g (x ∷ s) = g x ∷ first_changed i g s

-- run-out entries freed in the slots below i
abbrev pub freed_to : ℕ → List Slot → ℕ → List Slot
freed_to running s i = first_changed i (free_if_run_out running) s
