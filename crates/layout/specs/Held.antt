-- The holdings in the slots below i, as the model has them: what a loop over the slots has passed. Assumes nothing.
use Rattle.std.specs.Prelude.{ℕ, ◌*◌, Bool, true, cond, ◌&&◌, List, get_or, leb}
use Rattle.model.specs.Lists.{count}
use Rattle.model.specs.Table.{Line, read_entry, listed}
use Rattle.model.specs.Rules.{Holding, holding, entries_of, held_by, limit_of}
use Rattle.model.specs.Sound.{sound_roster, sound_holdings}
use Rattle.layout.specs.Shape.{in_use, slots_to, lines_to}

-- The slots' part does not hold the running count: it is the first argument. Rules that do not see an age are stated at 0.

-- the holding at a place
unfoldable pub holding_at : ℕ → List ℕ → ℕ → Holding
holding_at running b at = holding running (read_entry b at)

-- the holdings in the slots below i
unfoldable pub held_to : ℕ → List ℕ → ℕ → List Holding
held_to running b i = entries_of running (slots_to b i)

-- slot i is free, or its holding passes the test
abbrev pub ok_at : ℕ → List ℕ → (Holding → Bool) → ℕ → Bool
ok_at running b p i = cond (in_use (get_or b (320 * i) 0)) (p (holding_at running b (320 * i))) true

-- of the holdings, those of this one's address are no more than its limit
abbrev pub within : List Line → List Holding → Holding → Bool
within ls hs h = leb (count hs (held_by h.address)) (limit_of ls h.address)

-- the rules of a table of n slots, by its running count, lines and slots
abbrev pub rules_of : ℕ → List ℕ → List ℕ → ℕ → Bool
rules_of running lines slots n =
    sound_roster n (lines_to lines (listed lines 16)) && sound_holdings n (lines_to lines (listed lines 16)) (held_to running slots n)
