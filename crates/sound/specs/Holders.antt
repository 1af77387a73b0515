-- What the pass over the holders tests, slot by slot; no age is seen. Assumes nothing.
use Rattle.std.specs.Prelude.{ℕ, ◌+◌, Bool, true, false, not, cond, ◌&&◌, List, leb, Option, Some, None}
use Rattle.model.specs.Lists.{count, any, every, no_two}
use Rattle.model.specs.Table.{Line}
use Rattle.model.specs.Rules.{Holding, numbered, held_by, limit_of, share_of, reserve}
use Rattle.model.specs.Sound.{same_number, same_question}
use Rattle.layout.specs.Held.{held_to, within}

-- a holding, with those below slot i: none has its address and question, and its address is within its limit
abbrev pub holder_sound : List ℕ → List Line → ℕ → Holding → Bool
holder_sound b ls i k = every (λ h. not (same_question h k)) (held_to 0 b i) && leb (count (held_to 0 b i) (held_by k.address) + 1) (limit_of ls k.address)

-- of those below slot i no two have one address and question, and no address holds more than its limit
abbrev pub holders_sound : List ℕ → List Line → ℕ → Bool
holders_sound b ls i = no_two same_question (held_to 0 b i) && every (within ls (held_to 0 b i)) (held_to 0 b i)

-- Whether one holding more takes a slot beyond its share, for an address that has k: not below the share, and one from there on; at its limit the
-- address takes none.
abbrev pub beyond_share : ℕ → ℕ → ℕ → Option Bool
beyond_share share limit k = cond (leb (k + 1) share) (Some false) (cond (leb (k + 1) limit) (Some true) None)

-- the same of a holding, with those below slot i; none also where one of them has its number, or its address and question
abbrev pub entry_beyond_share : List ℕ → List Line → ℕ → Holding → Option Bool
entry_beyond_share b ls i k =
    cond (every (λ h. not (numbered k.number h)) (held_to 0 b i) && every (λ h. not (same_question h k)) (held_to 0 b i))
    (beyond_share (share_of ls k.address) (limit_of ls k.address) (count (held_to 0 b i) (held_by k.address))) None

-- the rules of entries that two of them, or they and the roster, have to meet, with n slots
abbrev pub entries_sound : List ℕ → List Line → ℕ → Bool
entries_sound b ls n = no_two same_number (held_to 0 b n) && (holders_sound b ls n && leb (reserve ls (count (held_to 0 b n)) + count (held_to 0 b n) any) n)
