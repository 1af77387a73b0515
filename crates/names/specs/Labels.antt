-- A stored name in two tests: its labels and its case. Assumes nothing.
use Rattle.std.specs.Prelude.{ℕ, zero, suc, Bool, false, cond, ◌&&◌, List, [], ◌∷◌, length, eqb, ltb}
use Rattle.model.specs.Lists.{every}
use Rattle.model.specs.Names.{fold}

-- a wire name that fills the list, in either case. k bytes of a label are still to come.
unfoldable pub labelled : ℕ → List ℕ → Bool
labelled k [] = false
labelled zero (b ∷ s) = cond (eqb b 0) (eqb (length s) 0) (ltb b 64 && labelled b s)
labelled (suc k) (b ∷ s) = labelled k s

-- no letter A to Z: the fold leaves each byte alone
abbrev pub lower_case : List ℕ → Bool
lower_case s = every (λ b. eqb (fold b) b) s
