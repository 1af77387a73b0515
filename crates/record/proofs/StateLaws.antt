-- What the state that a kind says tells of the kind. Assumes nothing.
use Prim.Native.Nat.{ℕ}
use mathlib.Core.Path.{◌≡◌, refl, sym, ap, ◌∙◌}
use mathlib.Core.Bool.{Bool, true, false, cond, ◌||◌}
use lib.Dec.{eqb}
use borrow.Author.Tests.{eqb-true}
use Rattle.layout.specs.Shape.{in_use}
use Rattle.record.specs.declared.State.{State}
use Rattle.record.specs.declared.State.TheVariants.{Free, Pending, Established}
use Rattle.record.specs.State.{state_of, has_entry, is_established}

-- it is an entry's kind
pub in-use-is : (k : ℕ) → has_entry (state_of k) ≡ in_use k
in-use-is k = go (eqb k 5) (eqb k 6)
  where
    go : (u v : Bool) → has_entry (cond u Pending (cond v Established Free)) ≡ u || v
    go true v = refl
    go false true = refl
    go false false = refl

-- the same of a state that was read
pub kind-in : (k : ℕ) (r s : State) → r ≡ state_of k → r ≡ s → in_use k ≡ has_entry s
kind-in k r s e f = sym (in-use-is k) ∙ ap has_entry (sym e ∙ f)

-- it is an established entry's
pub established-is : (k : ℕ) → is_established (state_of k) ≡ eqb k 6
established-is k = go (eqb k 5) (eqb k 6) (λ e. rw (eqb-true k 5 e))
  where
    go : (u v : Bool) → (u ≡ true → v ≡ false) → is_established (cond u Pending (cond v Established Free)) ≡ v
    go true v f = sym (f refl)
    go false true f = refl
    go false false f = refl
