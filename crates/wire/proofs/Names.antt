-- Laws of the name at a place, by which a loop over its labels goes. Assumes nothing.
use Prim.Native.Nat.{ℕ, zero, suc, ◌+◌, ◌-◌, ◌≤◌, ◌<◌}
use mathlib.Core.Path.{◌≡◌, refl, sym, ap, subst, ◌∙◌}
use mathlib.Core.List.{List, [], ◌∷◌}
use mathlib.Core.Bool.{cond}
use mathlib.Core.Logic.{◌⊎◌, inl, inr, ⊎_elim}
use native.Mathlib.Nat.{add-zero, eq-zero-or-pos}
use native.Mathlib.Omega.{arith}
use lib.ListN.{length, get_or, drop}
use lib.Seq.{drop-cons, drop-drop}
use lib.Dec.{eqb, ltb}
use borrow.Author.Tests.{le-leb, lt-leb, ltb-true, ltb-false}
use Rattle.std.specs.Prelude.{Option, Some, None}
use Rattle.model.specs.Names.{name_size}
use Rattle.model.specs.Query.{name_at}
use Rattle.model.proofs.NameLaws.{size-stop, name-bounds}
use Rattle.wire.specs.Read.{cursor, label_of, read_label, named, read_name}
use Rattle.wire.specs.declared.Cursor.{Cursor}
use Rattle.wire.specs.declared.Label.{Label}
use Rattle.wire.specs.declared.Label.TheVariants as label
use Rattle.std.proofs.lemmas.Bool.{cond_both}

pub size-skip : (k n : ℕ) (s : List ℕ) → name_size k n s ≡ name_size 0 (n + k) (drop k s)
unfolding name_size
size-skip zero n s = rw add-zero
size-skip (suc k) n [] = refl
size-skip (suc k) n (b ∷ s) = size-skip k (n + 1) s ∙ ap (λ (m : ℕ). name_size 0 m (drop k s)) (omega arith)

pub size_step : (s : List ℕ) (p n : ℕ) → p < length s
    → name_size 0 n (drop p s)
    ≡ cond (eqb (get_or s p 0) 0) (n + 1) (cond (ltb (get_or s p 0) 64) (name_size 0 (n + 1 + get_or s p 0) (drop (p + 1 + get_or s p 0) s)) 0)
unfolding name_size
size_step s p n h =
    ap (λ (l : List ℕ). name_size 0 n l) (drop-cons s p 0 h)
    ∙ ap (λ (w : ℕ). cond (eqb (get_or s p 0) 0) (n + 1) (cond (ltb (get_or s p 0) 64) w 0))
    (size-skip (get_or s p 0) (n + 1) (drop (suc p) s)
    ∙ ap (λ (l : List ℕ). name_size 0 (n + 1 + get_or s p 0) l)
    (drop-drop (get_or s p 0) (suc p) s ∙ ap (λ (m : ℕ). drop m s) {x = suc p + get_or s p 0} {y = p + 1 + get_or s p 0} (omega arith)))

-- what a label that was read at a place, n bytes behind the name's start, says of the name
abbrev pub After : List ℕ → ℕ → ℕ → Option Label → Type 0
After s start at (Some (label.Label next)) =
    (at < next.at) × (next.at ≤ at + 64) × (name_size 0 (at - start) (drop at s) ≡ name_size 0 (next.at - start) (drop next.at s))
After s start at (Some (label.Last next)) = (next.at ≡ at + 1) × (name_size 0 (at - start) (drop at s) ≡ at - start + 1)
After s start at None = name_size 0 (at - start) (drop at s) ≡ 0

module _ (s : List ℕ) (start at : ℕ) (h : start ≤ at) where
  step_is : at < length s → After s start at (label_of (Some (get_or s at 0, cursor (at + 1))))
  step_is l =
      let q = size_step s at (at - start) l in
      cond_both (eqb (get_or s at 0) 0) _ _ (After s start at)
      (λ e. (refl, rw e at q))
      (λ e.
      let r = rw e at q in
      cond_both (ltb (get_or s at 0) 64) _ _ (After s start at)
      (λ f.
      let b : get_or s at 0 < 64 = ltb-true (get_or s at 0) 64 f in
      let n : at - start + 1 + get_or s at 0 ≡ at + 1 + get_or s at 0 - start = omega arith in
      (omega arith, omega arith, rw (f, n) at r))
      (λ f. rw f at r))

  label_is : After s start at (read_label s at)
  label_is =
      cond_both (ltb at (length s)) _ _ (λ r. After s start at (label_of r))
      (λ e. step_is (ltb-true at (length s) e))
      (λ e. size-stop 0 (at - start) at s (ltb-false at (length s) e))

  pub after : {r : Option Label} → r ≡ read_label s at → After s start at r
  after e = subst (After s start at) (sym e) label_is

pub named-bad : (at w : ℕ) → (w ≡ 0) ⊎ (255 < w) → None ≡ named at w
named-bad at w (inl e) = rw e
named-bad at w (inr l) = simp (le-leb 1 w (omega arith), lt-leb w 255 l)

-- what the loop knows of the bytes that it passed
module _ (s : List ℕ) (start : ℕ) (c : Cursor) (inv : name_at s start ≡ name_size 0 (c.at - start) (drop c.at s)) where
  pub name-bad : name_size 0 (c.at - start) (drop c.at s) ≡ 0 → None ≡ read_name s start
  name-bad z = named-bad start (name_at s start) (inl (inv ∙ z))

  pub name-long : 255 ≤ c.at - start → None ≡ read_name s start
  name-long h =
      named-bad start (name_at s start)
      (⊎_elim
      (λ (e : name_at s start ≡ 0). inl e)
      (λ (l : 0 < name_at s start). inr (let b = (name-bounds 0 (c.at - start) (drop c.at s) (rw inv at l)).0 in omega arith))
      (eq-zero-or-pos (name_at s start)))

  pub name-found : (next : Cursor) → start ≤ c.at → c.at - start < 255 → next.at ≡ c.at + 1 → name_size 0 (c.at - start) (drop c.at s) ≡ c.at - start + 1
      → Some (next.at - start, next) ≡ read_name s start
  name-found next h l n z =
      let e : name_at s start ≡ next.at - start = inv ∙ z ∙ (let w : c.at - start + 1 ≡ next.at - start = omega arith in w) in
      let f : start + (next.at - start) ≡ next.at = omega arith in
      rw e (simp (le-leb 1 (next.at - start) (omega arith), le-leb (next.at - start) 255 (omega arith), f))

-- no byte is passed yet
pub name-start : (s : List ℕ) (at : ℕ) → name_at s at ≡ name_size 0 (at - at) (drop at s)
unfolding name_at
name-start s at = let e : at - at ≡ 0 = omega arith in rw e
