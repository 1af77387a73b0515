-- A layout's fields by their places: what laws of encoders and writers speak of. Assumes nothing.
use Prim.Native.Nat.{ℕ, zero, suc, ◌+◌}
use mathlib.Core.List.{List, [], ◌∷◌}
use Rattle.model.specs.Numbers.{bytes_of, splice}

-- how many bytes the fields take
abbrev pub width : List (ℕ × ℕ) → ℕ
width [] = 0
width (f ∷ fs) = f.0 + width fs

-- where field i starts
abbrev pub offset : List (ℕ × ℕ) → ℕ → ℕ
offset [] i = 0
offset (f ∷ fs) zero = 0
offset (f ∷ fs) (suc i) = f.0 + offset fs i

-- the fields written one after the other from index at
abbrev pub writes : List (ℕ × ℕ) → ℕ → List ℕ → List ℕ
writes [] at s = s
writes (f ∷ fs) at s = writes fs (at + f.0) (splice at f.0 (bytes_of f.0 f.1) s)
