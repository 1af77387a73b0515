-- The tally's lines of a roster, read from the first record on, are those that the model stores. Assumes nothing.
use Prim.Native.Nat.{ℕ, zero, suc, ◌+◌, ◌*◌}
use native.Mathlib.Nat.{add-zero, zero-add}
use native.Mathlib.Omega.{arith}
use mathlib.Core.Path.{◌≡◌, refl, sym, ap, ◌∙◌}
use mathlib.Core.List.{List, [], ◌∷◌, ◌++◌}
use Rattle.model.specs.Lists.{up_to}
use Rattle.model.specs.Table.{Line, read_line}
use Rattle.model.specs.Calls.{roster_count, roster_lines}
use Rattle.claims.specs.Roster.{lines_from, lines_given}

module _ (r : List ℕ) where
  abbrev line : ℕ → Line
  line i = read_line r (19 * i)

  -- one line more, at the end
  lines_next : (i k : ℕ) → lines_from r i (suc k) ≡ lines_from r i k ++ (line (i + k) ∷ [])
  unfolding read_line
  lines_next i zero = ap (λ (j : ℕ). line j ∷ []) (sym (add-zero i))
  lines_next i (suc k) =
      let e : suc i + k ≡ i + suc k = omega arith in
      ap (λ (ls : List Line). line i ∷ ls) (lines_next (suc i) k ∙ ap (λ (j : ℕ). lines_from r (suc i) k ++ (line j ∷ [])) e)

  lines_are : (k : ℕ) → up_to k line ≡ lines_from r 0 k
  unfolding up_to
  lines_are zero = refl
  lines_are (suc k) =
      ap (λ (ls : List Line). ls ++ (line k ∷ [])) (lines_are k)
      ∙ ap (λ (j : ℕ). lines_from r 0 k ++ (line j ∷ [])) (sym (zero-add k))
      ∙ sym (lines_next 0 k)

  pub lines-given : roster_lines r ≡ lines_given r
  lines-given = lines_are (roster_count r)
