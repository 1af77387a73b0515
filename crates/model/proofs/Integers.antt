-- Integers by differences of two naturals: `Diff z a b` says that z is a − b, as an equation of naturals, which `omega` reads.
-- Sums, negations and multiples have such differences, and two integers are equal, or in order, as their differences are. Assumes nothing.
use mathlib.Core.Path.{◌≡◌, refl, sym, ◌∙◌, ap}
use mathlib.Core.Bool.{Bool, true, false, cond}
use Prim.Native.Nat.{ℕ, zero, suc, ◌+◌, ◌-◌, ◌*◌, ◌≤◌, ◌<◌}
use native.Mathlib.Omega.{arith}
use native.Mathlib.Nat.{add-mul}
use lib.IntN.{ℤ, pos, negsuc, neg_ℤ, sub_ℕ, ◌+ℤ◌, ◌-ℤ◌, ◌*ℤ◌}
use lib.Signed.{mag, ◌≤ℤ◌, ◌<ℤ◌, le_z_yes, lt_z_yes}
use lib.Dec.{ltb, lt→ltb, le→leb, ltb→lt, leb→le}
use borrow.Author.Tests.{ltb-true, ltb-false}

abbrev pub Gap : ℤ → ℕ → ℕ → Type 0
Gap (pos n) a b = n + b ≡ a
Gap (negsuc n) a b = a + suc n ≡ b

-- z is a − b. A record, so that the three can be inferred
pub record Diff (z : ℤ) (a b : ℕ) : Type 0 where
  pub is : Gap z a b

-- a natural is its difference from 0
pub diff-pos : (n : ℕ) → Diff (pos n) n 0
diff-pos n = omega arith

-- the same difference, of other numbers
pub diff-move : {z : ℤ} {a b c d : ℕ} → Diff z a b → a + d ≡ c + b → Diff z c d
diff-move {z = pos n} p e = omega arith
diff-move {z = negsuc n} p e = omega arith

sub_at : (a b : ℕ) (t : Bool) → ltb a b ≡ t → Diff (cond t (negsuc (b - suc a)) (pos (a - b))) a b
sub_at a b true e = record { is = omega (arith, ltb-true a b e) }
sub_at a b false e = record { is = omega (arith, ltb-false a b e) }

pub diff-sub : (a b : ℕ) → Diff (sub_ℕ a b) a b
diff-sub a b = sub_at a b (ltb a b) refl

pub diff-neg : {z : ℤ} {a b : ℕ} → Diff z a b → Diff (neg_ℤ z) b a
diff-neg {z = pos zero} p = omega arith
diff-neg {z = pos (suc n)} p = omega arith
diff-neg {z = negsuc n} p = omega arith

pub diff-add : {x y : ℤ} {a b c d : ℕ} → Diff x a b → Diff y c d → Diff (x +ℤ y) (a + c) (b + d)
diff-add {x = pos m} {y = pos n} p q = omega arith
diff-add {x = pos m} {y = negsuc n} p q = diff-move (diff-sub m (suc n)) (omega arith)
diff-add {x = negsuc m} {y = pos n} p q = diff-move (diff-sub n (suc m)) (omega arith)
diff-add {x = negsuc m} {y = negsuc n} p q = omega arith

pub diff-minus : (a b : ℕ) → Diff (pos a -ℤ pos b) a b
diff-minus a b = diff-move (diff-add (diff-pos a) (diff-neg (diff-pos b))) (omega arith)

pub diff-mul : {z : ℤ} (k : ℕ) {a b : ℕ} → Diff z a b → Diff (z *ℤ pos k) (a * k) (b * k)
diff-mul {z = pos n} k {a} {b} p = record { is = sym (add-mul n b k) ∙ ap (λ (v : ℕ). v * k) p.is }
diff-mul {z = negsuc n} k {a} {b} p =
    let e : a * k + suc n * k ≡ b * k = sym (add-mul a (suc n) k) ∙ ap (λ (v : ℕ). v * k) p.is in
    diff-move (diff-neg (diff-pos (suc n * k))) (omega arith)

-- each integer is the difference of its two parts
abbrev pub up : ℤ → ℕ
up (pos n) = n
up (negsuc n) = 0

abbrev pub down : ℤ → ℕ
down (pos n) = 0
down (negsuc n) = suc n

pub diff-of : (z : ℤ) → Diff z (up z) (down z)
diff-of (pos n) = omega arith
diff-of (negsuc n) = omega arith

-- two integers of one difference are one
pub diff-eq : {x y : ℤ} {a b c d : ℕ} → Diff x a b → Diff y c d → a + d ≡ c + b → x ≡ y
diff-eq {x = pos m} {y = pos n} p q e = ap pos (omega arith)
diff-eq {x = pos m} {y = negsuc n} p q e = absurd (omega arith)
diff-eq {x = negsuc m} {y = pos n} p q e = absurd (omega arith)
diff-eq {x = negsuc m} {y = negsuc n} p q e = ap negsuc (omega arith)

-- order
pub diff-lt : {x y : ℤ} {a b c d : ℕ} → Diff x a b → Diff y c d → a + d < c + b → x <ℤ y
diff-lt {x = pos m} {y = pos n} p q h = lt_z_yes (lt→ltb m n (omega arith))
diff-lt {x = pos m} {y = negsuc n} p q h = absurd (omega arith)
diff-lt {x = negsuc m} {y = pos n} p q h = lt_z_yes tt
diff-lt {x = negsuc m} {y = negsuc n} p q h = lt_z_yes (lt→ltb n m (omega arith))

pub diff-le : {x y : ℤ} {a b c d : ℕ} → Diff x a b → Diff y c d → a + d ≤ c + b → x ≤ℤ y
diff-le {x = pos m} {y = pos n} p q h = le_z_yes (le→leb m n (omega arith))
diff-le {x = pos m} {y = negsuc n} p q h = absurd (omega arith)
diff-le {x = negsuc m} {y = pos n} p q h = le_z_yes tt
diff-le {x = negsuc m} {y = negsuc n} p q h = le_z_yes (le→leb n m (omega arith))

pub lt-diff : {x y : ℤ} {a b c d : ℕ} → x <ℤ y → Diff x a b → Diff y c d → a + d < c + b
lt-diff {x = pos m} {y = pos n} h p q = omega (arith, ltb→lt m n h.lt)
lt-diff {x = pos m} {y = negsuc n} h p q = absurd h.lt
lt-diff {x = negsuc m} {y = pos n} h p q = omega arith
lt-diff {x = negsuc m} {y = negsuc n} h p q = omega (arith, ltb→lt n m h.lt)

pub le-diff : {x y : ℤ} {a b c d : ℕ} → x ≤ℤ y → Diff x a b → Diff y c d → a + d ≤ c + b
le-diff {x = pos m} {y = pos n} h p q = omega (arith, leb→le m n h.le)
le-diff {x = pos m} {y = negsuc n} h p q = absurd h.le
le-diff {x = negsuc m} {y = pos n} h p q = omega arith
le-diff {x = negsuc m} {y = negsuc n} h p q = omega (arith, leb→le n m h.le)

-- the range of a signed width, by its half H = 2 ^ hbits w: `record { sfits = diff-mag d (omega arith) (omega arith) } : SFits w z`
pub diff-mag : {z : ℤ} {a b H : ℕ} → Diff z a b → a < b + H → b ≤ a + H → mag z < H
diff-mag {z = pos n} p u l = omega arith
diff-mag {z = negsuc n} p u l = omega arith
