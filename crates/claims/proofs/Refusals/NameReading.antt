-- A name read label by label, against its size. Assumes nothing.
use Prim.Native.Nat.{ℕ, zero, suc, ◌+◌, ◌-◌, ◌≤◌, ◌<◌}
use native.Mathlib.Nat.{add-zero}
use native.Mathlib.Omega.{arith}
use mathlib.Core.Path.{◌≡◌, refl, sym, ◌∙◌}
use mathlib.Core.Bool.{true, false}
use mathlib.Core.List.{List}
use mathlib.Core.Logic.{⊎_elim, ◌≢◌}
use lib.ListN.{length, get_or, drop}
use lib.Dec.{eqb, ltb}
use borrow.Author.Tests.{ltb-true, ltb-false, eqb-true, eqb-false}
use Rattle.model.specs.Names.{name_size}
use Rattle.model.specs.Query.{name_at}
use Rattle.model.proofs.ListLaws.{test}
use Rattle.model.proofs.NameLaws.{size-stop, size-byte, size-end, size-label, size-long}
use Rattle.claims.specs.Refusals.{Label, NameEnds}

-- the rest of a label is passed
skip : (k n i : ℕ) (d : List ℕ) → name_size k n (drop i d) ≡ name_size 0 (n + k) (drop (i + k) d)
skip zero n i d = rw (add-zero n, add-zero i)
skip (suc k) n i d =
    ⊎_elim
    (λ (l : ltb i (length d) ≡ true).
    let a : n + 1 + k ≡ n + suc k = omega arith in
    let b : suc i + k ≡ i + suc k = omega arith in
    size-byte n i d (ltb-true i (length d) l) k ∙ skip k (n + 1) (suc i) d ∙ rw (a, b))
    (λ (l : ltb i (length d) ≡ false).
    let h = ltb-false i (length d) l in
    size-stop (suc k) n i d h ∙ sym (size-stop 0 (n + suc k) (i + suc k) d (omega arith)))
    (test (ltb i (length d)))

-- WHAT A LABEL SAYS OF THE SIZE

module _ (d : List ℕ) (p : ℕ) where
  -- the name's size is found from each of its labels
  pub label-size : (q : ℕ) → Label d p q → (p ≤ q) × (name_at d p ≡ name_size 0 (q - p) (drop q d))
  unfolding name_at
  label-size x Label.first = let e : p - p ≡ 0 = omega arith in (omega arith, rw e)
  label-size x (Label.next q r l inside some few e) =
      let h = label-size q l in
      let b = get_or d q 0 in
      let a : (q - p) + 1 + b ≡ r - p = omega (arith, h.0) in
      let c : suc q + b ≡ r = omega arith in (
        omega (arith, h.0),
        h.1 ∙ size-label (q - p) q d inside (λ z. omega arith) few ∙ skip b ((q - p) + 1) (suc q) d ∙ rw (a, c),
      )

  -- a name that ends takes the bytes up to its end
  pub end-size : (e : ℕ) → NameEnds d p e → p + name_at d p ≡ e
  end-size e n =
      let h = label-size n.last n.label in
      let s = size-end (n.last - p) n.last d n.inside n.root in
      omega (arith, h.0, h.1, s, n.end)

  -- one whose labels run out is none
  pub stop-size : (q : ℕ) → Label d p q → length d ≤ q → name_at d p ≡ 0
  stop-size q l h = (label-size q l).1 ∙ size-stop 0 (q - p) q d h

  -- nor is one that has a label byte of 64 or more
  pub long-size : (q : ℕ) → Label d p q → q < length d → 64 ≤ get_or d q 0 → name_at d p ≡ 0
  long-size q l inside h = (label-size q l).1 ∙ size-long (q - p) q d inside h

-- WHAT BECOMES OF A NAME: it ends, its labels run out, or one is too large
pub data NameScan (d : List ℕ) (p : ℕ) : Type 0 where
  ends : (e : ℕ) → NameEnds d p e → NameScan d p
  stops : (q : ℕ) → Label d p q → length d ≤ q → NameScan d p
  bars : (q : ℕ) → Label d p q → q < length d → 64 ≤ get_or d q 0 → NameScan d p

scan-from : (d : List ℕ) (p k q : ℕ) → length d ≤ q + k → Label d p q → NameScan d p
scan-from d p zero q h l = NameScan.stops q l (omega arith)
scan-from d p (suc k) q h l =
    ⊎_elim
    (λ (i : ltb q (length d) ≡ true).
    let inside = ltb-true q (length d) i in
    ⊎_elim
    (λ (z : eqb (get_or d q 0) 0 ≡ true).
    NameScan.ends (q + 1) (record { last = q; label = l; inside = inside; root = eqb-true (get_or d q 0) 0 z; end = refl }))
    (λ (z : eqb (get_or d q 0) 0 ≡ false).
    let some : get_or d q 0 ≢ 0 = eqb-false (get_or d q 0) 0 z in
    ⊎_elim
    (λ (s : ltb (get_or d q 0) 64 ≡ true).
    scan-from d p k (q + 1 + get_or d q 0) (omega arith)
    (Label.next q (q + 1 + get_or d q 0) l inside (omega arith) (ltb-true (get_or d q 0) 64 s) refl))
    (λ (s : ltb (get_or d q 0) 64 ≡ false). NameScan.bars q l inside (ltb-false (get_or d q 0) 64 s))
    (test (ltb (get_or d q 0) 64)))
    (test (eqb (get_or d q 0) 0)))
    (λ (i : ltb q (length d) ≡ false). NameScan.stops q l (ltb-false q (length d) i))
    (test (ltb q (length d)))

pub name-scan : (d : List ℕ) (p : ℕ) → NameScan d p
name-scan d p = scan-from d p (length d) p (omega arith) Label.first
