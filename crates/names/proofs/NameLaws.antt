-- A stored name: its labels, a label a turn, and its case, a byte a turn or a block. Assumes nothing.
use Prim.Native.Nat.{ℕ, zero, suc, ◌+◌, ◌-◌, ◌≤◌, ◌<◌}
use native.Mathlib.Nat.{add-zero, sub-zero}
use native.Mathlib.Omega.{arith}
use mathlib.Core.Path.{◌≡◌, refl, sym, ap, ◌∙◌}
use mathlib.Core.Bool.{Bool, true, false, not, cond, ◌&&◌, and-true, not-not}
use mathlib.Core.List.{List, [], ◌∷◌}
use mathlib.Core.Logic.{◌≢◌}
use lib.ListN.{length, get_or}
use lib.Dec.{eqb, ltb}
use lib.Seq.{drop-cons}
use borrow.Author.Tests.{eqb-true, eq-eqb, ne_eqb, ltb-true, lt-ltb, le-ltb}
use Rattle.std.specs.Int.{from_bool}
use Rattle.model.specs.Lists.{every}
use Rattle.model.specs.Numbers.{part}
use Rattle.model.specs.Names.{upper, fold, lower_name}
use Rattle.model.proofs.NumberLaws.{part_none, length_part}
use Rattle.model.proofs.ListLaws.{iff, every_append, part-add}
use Rattle.model.proofs.NameLaws.{below-upper, fold_same}
use Rattle.layout.proofs.ShapeLaws.{part-head}
use Rattle.names.specs.Labels.{labelled, lower_case}
use Rattle.names.proofs.FoldTable.{upper-folds}
use Rattle.octets.proofs.Cover.{cover}

-- THE TWO TESTS are the name's

none_left : (s : List ℕ) → eqb (length s) 0 ≡ eqb (length s) 0 && lower_case s
unfolding every
none_left [] = refl
none_left (b ∷ s) = let e : eqb (length (b ∷ s)) 0 ≡ false = ne_eqb (length (b ∷ s)) 0 (λ z. omega arith) in rw e

turned : (a b c : Bool) → a && (b && c) ≡ b && (a && c)
turned true b c = refl
turned false true c = refl
turned false false c = refl

-- a length byte is left alone
stays : (b : ℕ) → b < 65 → eqb (fold b) b ≡ true
stays b l = eq-eqb (fold b) b (fold_same b (below-upper b l))

pub name-is : (k : ℕ) (s : List ℕ) → lower_name k s ≡ labelled k s && lower_case s
unfolding lower_name labelled every
name-is k [] = refl
name-is zero (b ∷ s) = go (eqb b 0) (ltb b 64) refl refl (name-is b s)
  where
    go : (u v : Bool) → eqb b 0 ≡ u → ltb b 64 ≡ v → lower_name b s ≡ labelled b s && lower_case s
        → cond u (eqb (length s) 0) (v && lower_name b s) ≡ cond u (eqb (length s) 0) (v && labelled b s) && (eqb (fold b) b && lower_case s)
    go true v e f r = let z : b ≡ 0 = eqb-true b 0 e in rw (stays b (omega arith)) (none_left s)
    go false true e f r = rw (stays b (omega (arith, ltb-true b 64 f))) r
    go false false e f r = refl
name-is (suc k) (b ∷ s) = rw (upper-folds b, not-not (eqb (fold b) b), name-is k s) (turned (eqb (fold b) b) (labelled k s) (lower_case s))

-- LABELS

labelled-none : (s : List ℕ) (at k : ℕ) → labelled k (part at 0 s) ≡ false
unfolding labelled
labelled-none s at k = rw (part_none at s)

-- the bytes of a label passed at once
passed : (s : List ℕ) (k at n : ℕ) → at + n ≤ length s → labelled k (part at n s) ≡ labelled 0 (part (at + k) (n - k) s)
unfolding labelled
passed s zero at n h = rw (add-zero, sub-zero)
passed s (suc k) at zero h = labelled-none s at (suc k) ∙ sym (ap (λ (z : ℕ). labelled 0 (part (at + suc k) z s)) none ∙ labelled-none s (at + suc k) 0)
  where
    none : 0 - suc k ≡ 0
    none = omega arith
passed s (suc k) at (suc n) h =
    let e : at + 1 + k ≡ at + suc k = omega arith in
    let f : suc n - suc k ≡ n - k = omega arith in
    rw (part-head at n s h, f) (passed s k (at + 1) n (omega arith) ∙ ap (λ (x : ℕ). labelled 0 (part x (n - k) s)) e)

-- a turn, at byte i of len
module _ (s : List ℕ) (at len i : ℕ) (inv : labelled 0 (part at len s) ≡ labelled 0 (part (at + i) (len - i) s)) where
  pub labels-short : len ≤ i → labelled 0 (part at len s) ≡ false
  labels-short h = let e : len - i ≡ 0 = omega arith in inv ∙ (rw e (labelled-none s (at + i) 0))

  module _ (l : i < len) (h : at + len ≤ length s) where
    cut : len - i ≡ suc (len - (i + 1))
    cut = omega arith

    fits : at + i + suc (len - (i + 1)) ≤ length s
    fits = omega arith

    pub labels-end : get_or s (at + i) 0 ≡ 0 → labelled 0 (part at len s) ≡ eqb (i + 1) len
    unfolding labelled
    labels-end e =
        inv
        ∙ (rw (cut, part-head (at + i) (len - (i + 1)) s fits, e, length_part (at + i + 1) (len - (i + 1)) s (omega arith))
        (iff (eqb (len - (i + 1)) 0) (eqb (i + 1) len)
        (λ t. eq-eqb (i + 1) len (let q = eqb-true (len - (i + 1)) 0 t in omega arith))
        (λ t. eq-eqb (len - (i + 1)) 0 (let q = eqb-true (i + 1) len t in omega arith))))

    pub labels-long : 64 ≤ get_or s (at + i) 0 → labelled 0 (part at len s) ≡ false
    unfolding labelled
    labels-long m =
        let n : get_or s (at + i) 0 ≢ 0 = λ z. omega arith in
        inv ∙ (rw (cut, part-head (at + i) (len - (i + 1)) s fits, ne_eqb (get_or s (at + i) 0) 0 n, le-ltb (get_or s (at + i) 0) 64 m))

    pub labels_next : (b : ℕ) → b ≡ get_or s (at + i) 0 → b ≢ 0 → b < 64
        → labelled 0 (part at len s) ≡ labelled 0 (part (at + (i + (b + 1))) (len - (i + (b + 1))) s)
    unfolding labelled
    labels_next b q n m =
        let e : at + i + 1 + b ≡ at + (i + (b + 1)) = omega arith in
        let f : len - (i + 1) - b ≡ len - (i + (b + 1)) = omega arith in
        inv
        ∙ (rw (cut, part-head (at + i) (len - (i + 1)) s fits, ← q, ne_eqb b 0 n, lt-ltb b 64 m)
        (passed s b (at + i + 1) (len - (i + 1)) (omega arith) ∙ ap (λ (x : ℕ). labelled 0 (part x (len - (i + 1) - b) s)) e
        ∙ ap (λ (x : ℕ). labelled 0 (part (at + (i + (b + 1))) x s)) f))

-- CASE

-- the fold leaves each of the n bytes from index at alone
abbrev pub lower_bytes : List ℕ → ℕ → ℕ → Bool
lower_bytes s at n = lower_case (part at n s)

-- the byte of a test is zero exactly if it fails
byte-none : (v : Bool) → eqb (from_bool v) 0 ≡ not v
byte-none true = refl
byte-none false = refl

module _ (s : List ℕ) where
  -- n bytes are j and then k
  pub lower-both : (at n j k : ℕ) → j + k ≡ n → at + n ≤ length s → lower_bytes s at j && lower_bytes s (at + j) k ≡ lower_bytes s at n
  lower-both at n j k e h =
      sym (ap (λ (x : ℕ). lower_bytes s at x) (sym e) ∙ ap lower_case (part-add at j k s) ∙ every_append (λ b. eqb (fold b) b) (part at j s) (part (at + j) k s))

  pub lower-one : (at : ℕ) → at < length s → eqb (from_bool (upper (get_or s at 0))) 0 ≡ lower_bytes s at 1
  unfolding every part
  lower-one at h =
      let b = get_or s at 0 in rw (drop-cons s at 0 h, upper-folds b) (byte-none (not (eqb (fold b) b)) ∙ not-not (eqb (fold b) b) ∙ sym (and-true (eqb (fold b) b)))

  -- the first m and the last k are all n
  pub lower-cover : (at n m k : ℕ) → m ≤ n → k ≤ n → n ≤ m + k → at + n ≤ length s → lower_bytes s at m && lower_bytes s (at + (n - k)) k ≡ lower_bytes s at n
  lower-cover = cover (lower_bytes s) _ lower-both
