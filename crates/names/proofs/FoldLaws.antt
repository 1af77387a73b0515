-- Bytes that are compared or copied folded: a part of the folded list, and a byte of it. Assumes nothing.
use Prim.Native.Nat.{ℕ, zero, suc, ◌+◌, ◌<◌}
use native.Mathlib.Omega.{arith}
use mathlib.Core.Path.{◌≡◌, refl, ap, ◌∙◌}
use mathlib.Core.List.{List, [], ◌∷◌, map}
use lib.ListN.{length, get_or, take, drop, set}
use Rattle.model.specs.Numbers.{part, splice}
use Rattle.model.specs.Names.{fold}
use Rattle.model.proofs.ListLaws.{length-map, get_or-map}
use Rattle.model.proofs.NumberLaws.{copy_step}

module _ (f : ℕ → ℕ) where
  map-take : (k : ℕ) (s : List ℕ) → map f (take k s) ≡ take k (map f s)
  map-take zero s = refl
  map-take (suc k) [] = refl
  map-take (suc k) (x ∷ s) = ap (λ (l : List ℕ). f x ∷ l) (map-take k s)

  map-drop : (at : ℕ) (s : List ℕ) → map f (drop at s) ≡ drop at (map f s)
  map-drop zero s = refl
  map-drop (suc at) [] = refl
  map-drop (suc at) (x ∷ s) = map-drop at s

  pub map-part : (at k : ℕ) (s : List ℕ) → map f (part at k s) ≡ part at k (map f s)
  unfolding part
  map-part at k s = map-take k (drop at s) ∙ ap (take k) (map-drop at s)

-- byte i of the folded list
pub folded-at : (d : List ℕ) (i : ℕ) → i < length d → get_or (map fold d) i 0 ≡ fold (get_or d i 0)
folded-at d i h = get_or-map fold d i 0 0 h

-- a turn of a copy
pub fold_step : (at from i : ℕ) (d s : List ℕ) → from + i < length d → at + i < length s
    → set (splice at i (map fold (part from i d)) s) (at + i) (fold (get_or d (from + i) 0)) ≡ splice at (i + 1) (map fold (part from (i + 1) d)) s
fold_step at from i d s h l =
    let m : length (map fold d) ≡ length d = length-map fold d in
    rw (map-part fold from i d, map-part fold from (i + 1) d, ← folded-at d (from + i) h) (copy_step at from i (map fold d) s (omega arith) l)
