-- From tests to numbers: a ladder of tests gives the lowest number whose condition holds. Assumes nothing.
use Prim.Native.Nat.{ℕ, zero, suc, ◌<◌}
use native.Mathlib.Omega.{arith}
use mathlib.Core.Path.{◌≡◌, refl, sym, ◌∙◌}
use mathlib.Core.Bool.{Bool, true, false, not}
use mathlib.Core.List.{List, [], ◌∷◌}
use mathlib.Core.Logic.{inl, inr}
use borrow.Author.Tests.{not-false}
use Rattle.model.specs.Lists.{every, no_two, up_to}
use Rattle.model.specs.Calls.{refusal}
use Rattle.model.proofs.ListLaws.{never, not-both, every-snoc, every-nil, every-up_to, every-index, no_two-snoc, no_two-nil}
use Rattle.claims.specs.Refusals.{Lowest, Done}

-- THE LADDER

-- a test passes exactly if its condition holds; what is below counts where it fails
pub rung : (k : ℕ) (b : Bool) (ks : List (ℕ × Bool)) (P : Type 0) (rest : ℕ → Type 0) → (b ≡ true → P) → (b ≡ false → P → ⊥)
    → (b ≡ false → rest (refusal ks)) → Lowest k P rest (refusal ((k, b) ∷ ks))
unfolding refusal
rung k true ks P rest holds fails below = inl (holds refl, refl)
rung k false ks P rest holds fails below = inr (fails refl, below refl)

-- the same of a rule that fails exactly if the condition holds
pub rung-not : (k : ℕ) (b : Bool) (ks : List (ℕ × Bool)) (P : Type 0) (rest : ℕ → Type 0) → (b ≡ false → P) → (b ≡ true → P → ⊥)
    → (b ≡ true → rest (refusal ks)) → Lowest k P rest (refusal ((k, not b) ∷ ks))
unfolding refusal
rung-not k true ks P rest holds fails below = inr (fails refl, below refl)
rung-not k false ks P rest holds fails below = inl (holds refl, refl)

pub no-rung : Done (refusal [])
unfolding refusal
no-rung = refl

-- TESTS OF EACH

-- the first that fails
pub record FirstMiss (p : ℕ → Bool) (n : ℕ) : Type 0 where
  pub index : ℕ
  pub within : index < n
  pub misses : p index ≡ false
  pub before : (j : ℕ) → j < index → p j ≡ true

pub first-miss : (p : ℕ → Bool) (n : ℕ) → every p (up_to n (λ i. i)) ≡ false → FirstMiss p n
unfolding up_to
first-miss p zero h = never (every-nil p) h
first-miss p (suc n) h =
    not-both (every p (up_to n (λ i. i))) (p n)
    (λ e. let m = first-miss p n e in record { index = m.index; within = omega (arith, m.within); misses = m.misses; before = m.before })
    (λ t e. record { index = n; within = omega arith; misses = e; before = every-index p n t })
    (sym (every-snoc p (up_to n (λ i. i)) n) ∙ h)

-- two that agree
pub record Two {A : Type 0} (q : A → A → Bool) (n : ℕ) (f : ℕ → A) : Type 0 where
  pub one : ℕ
  pub other : ℕ
  pub less : one < other
  pub within : other < n
  pub agree : q (f one) (f other) ≡ true

pub some-two : {A : Type 0} (q : A → A → Bool) (n : ℕ) (f : ℕ → A) → no_two q (up_to n f) ≡ false → Two q n f
unfolding up_to
some-two q zero f h = never (no_two-nil q) h
some-two q (suc n) f h =
    not-both (no_two q (up_to n f)) (every (λ y. not (q y (f n))) (up_to n f))
    (λ e. let m = some-two q n f e in
    record { one = m.one; other = m.other; less = m.less; within = omega (arith, m.within); agree = m.agree })
    (λ t e.
    let m = first-miss (λ i. not (q (f i) (f n))) n (sym (every-up_to n f (λ y. not (q y (f n)))) ∙ e) in
    record { one = m.index; other = n; less = m.within; within = omega arith; agree = not-false (q (f m.index) (f n)) m.misses })
    (sym (no_two-snoc q (up_to n f) (f n)) ∙ h)
